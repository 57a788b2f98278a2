use Rattle.switch_net.proofs.Common.{◌≡◌, length}
use Rattle.switch_net.proofs.node_set.NodeSet.clear.Given as goal

abbrev pub invariant-loop-self : goal.invariant-loop-self
invariant-loop-self l = length l.self.inside ≡ length l.fn.self.inside

abbrev pub decreases-loop-self : goal.decreases-loop-self
decreases-loop-self l = l.self.count
