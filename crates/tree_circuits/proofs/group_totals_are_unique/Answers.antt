use Rattle.tree_circuits.proofs.ClosedSums.{one_total_each}
use Rattle.tree_circuits.proofs.group_totals_are_unique.Goals as goal

pub returns : goal.returns
returns c = λ raw tree quantity groups others are also passes. one_total_each raw tree quantity groups others are also passes
