use Rattle.cell_library.proofs.Common.{subst, Layout, AreTakenOut, CanStandIn}
use Rattle.std.specs.Prelude.{ℕ}
use Rattle.cell_library.proofs.library.Library.take_out.Goals as goal

pub returns-clause-taken : goal.returns-clause-taken
returns-clause-taken c =
    subst (λ (own : Layout). AreTakenOut own c.args.area c.in_ok-taken.taken.items) c.paint_of.ensures.own c.in_ok-taken.ensures.taken

pub returns-clause-pieces : goal.returns-clause-pieces
returns-clause-pieces c =
    subst (λ (count : ℕ). CanStandIn c.args.area count c.in_ok-taken.taken.items) c.paint_of.ensures.planes c.in_ok-taken.ensures.pieces
