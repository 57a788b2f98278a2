use Rattle.tree_circuits.proofs.ChannelSets.{set_above, set_below}
use Rattle.tree_circuits.proofs.OwnedChannels.{owned_channels}
use Rattle.tree_circuits.proofs.channel_sets_are_owned.Goals as goal

pub returns : goal.returns
returns c = λ raw tree formed rules typed clean.
    let owns = owned_channels raw formed rules tree typed clean in
    record { above = set_above raw tree owns; below = set_below raw tree owns }
