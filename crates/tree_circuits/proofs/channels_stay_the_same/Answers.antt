use Rattle.tree_circuits.proofs.Common.{flat_layout}
use Rattle.tree_circuits.proofs.OwnedChannels.{owned_channels}
use Rattle.tree_circuits.proofs.SameChannels.{same_set}
use Rattle.tree_circuits.proofs.channels_stay_the_same.Goals as goal

pub returns : goal.returns
returns c = λ raw tree formed rules typed clean position standing there place channel.
    same_set raw standing.own.layout standing.placed (flat_layout raw tree)
    ((owned_channels raw formed rules tree typed clean).kept position standing there) place channel
