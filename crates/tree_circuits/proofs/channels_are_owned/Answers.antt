use Rattle.tree_circuits.proofs.OwnedChannels.{owned_channels}
use Rattle.tree_circuits.proofs.channels_are_owned.Goals as goal

pub returns : goal.returns
returns c = λ raw tree formed rules typed clean. owned_channels raw formed rules tree typed clean
