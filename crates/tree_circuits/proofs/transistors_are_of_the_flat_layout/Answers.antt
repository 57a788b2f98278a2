use Rattle.tree_circuits.proofs.FlatTransistors.{flat_transistor}
use Rattle.tree_circuits.proofs.OwnedChannels.{owned_channels}
use Rattle.tree_circuits.proofs.transistors_are_of_the_flat_layout.Goals as goal

pub returns : goal.returns
returns c = λ raw tree formed rules typed clean position standing there rename gives fet is terminals are.
    flat_transistor raw tree formed
    (owned_channels raw formed rules tree typed clean) position standing there rename gives fet is terminals are
