use Rattle.run_plane.proofs.Common.{[], sym, subst, rules, edge, AreRuns}
use Rattle.run_plane.proofs.RowLaws.{runs_ordered}
use Rattle.run_plane.proofs.run_planes.RunPlanePlane.at.Goals as goal

pub value_at-requires : goal.value_at-requires
value_at-requires c =
    subst (AreRuns edge) (sym c.runs_at.ensures)
    (runs_ordered edge [] c.as_slice.result.now _ tt (search rules))
