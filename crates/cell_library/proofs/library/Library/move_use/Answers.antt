use Rattle.cell_library.proofs.Common.{refl, to_z-of_z, on_ok_weaker}
use mir.Syntax.{w64}
use Rattle.cell_library.proofs.EditLaws.{here, lawful_or_kept, seen_cells}
use Rattle.cell_library.proofs.FaultLaws.{answers_only, on_any_err}
use Rattle.cell_library.proofs.MoveEdits.{move_fault, moved_seen, moved_lawful, moved_unrefused}
use Rattle.cell_library.proofs.library.Library.move_use.Goals as goal

pub invariant_of-self : goal.invariant_of-self
invariant_of-self c =
    let below = here c.self.view_is c.requires.cell in
    let step = c.move_use-done in
    let did = rw (to_z-of_z w64 c.args.dx c.ranges.dx) at (rw (to_z-of_z w64 c.args.dy c.ranges.dy) at step.ensures.done) in
    lawful_or_kept _ _ _ step.result c.self.invariant did (on_any_err _ step.result refl) step.ensures.same
    (λ done. moved_lawful _ c.self.invariant _ below _ c.args.dx c.args.dy _ done c.lawful.ensures)

pub returns-clause-answers : goal.returns-clause-answers
returns-clause-answers c =
    let below = here c.self.view_is c.requires.cell in
    let step = c.move_use-done in
    let did = rw (to_z-of_z w64 c.args.dx c.ranges.dx) at (rw (to_z-of_z w64 c.args.dy c.ranges.dy) at step.ensures.done) in
    let fault = rw (to_z-of_z w64 c.args.dx c.ranges.dx) at (rw (to_z-of_z w64 c.args.dy c.ranges.dy) at step.ensures.fault) in
    rw (← c.self.view_is) (answers_only _ _ _ step.result did
    (λ done. moved_unrefused _ c.self.invariant _ below _ c.args.dx c.args.dy _ done c.lawful.ensures) fault
    (move_fault _ c.self.invariant _ below _ c.args.dx c.args.dy))

pub returns-clause-moved : goal.returns-clause-moved
returns-clause-moved c =
    let below = here c.self.view_is c.requires.cell in
    let step = c.move_use-done in
    let did = rw (to_z-of_z w64 c.args.dx c.ranges.dx) at (rw (to_z-of_z w64 c.args.dy c.ranges.dy) at step.ensures.done) in
    rw (← c.self.view_is) (on_ok_weaker step.result (λ done. seen_cells _ _ c.self.inside.contents step.new.tree _
    (moved_seen _ c.self.invariant _ below _ c.args.dx c.args.dy _ done c.lawful.ensures)) did)
