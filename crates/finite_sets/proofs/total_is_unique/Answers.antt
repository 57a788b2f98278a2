use Rattle.finite_sets.proofs.Totals.{Total-unique}
use Rattle.finite_sets.proofs.total_is_unique.Goals as goal

pub returns : goal.returns
returns g c = Total-unique g.T.Things.first
