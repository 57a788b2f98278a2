use Rattle.finite_sets.proofs.Totals.{Total-union}
use Rattle.finite_sets.proofs.totals_add.Goals as goal

pub returns : goal.returns
returns g c = λ apart w m n s t. Total-union g.T.Things.first g.T.Things.second w m n apart s t
