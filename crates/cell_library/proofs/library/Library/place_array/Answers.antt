use Rattle.cell_library.proofs.Common.{refl, on_ok_weaker}
use Rattle.cell_library.proofs.EditLaws.{here, lawful_or_kept, seen_cells}
use Rattle.cell_library.proofs.FaultLaws.{answers_only, on_any_err}
use Rattle.cell_library.proofs.MoveEdits.{array_fault, arrayed_seen, arrayed_lawful, arrayed_unrefused}
use Rattle.cell_library.proofs.library.Library.place_array.Goals as goal

pub invariant_of-self : goal.invariant_of-self
invariant_of-self c =
    let below = here c.self.view_is c.requires.cell in
    let step = c.place_array-done in
    lawful_or_kept _ _ _ step.result c.self.invariant step.ensures.done (on_any_err _ step.result refl) step.ensures.same
    (λ done. arrayed_lawful _ c.self.invariant _ below _ _ _ done c.lawful.ensures)

pub returns-clause-answers : goal.returns-clause-answers
returns-clause-answers c =
    let below = here c.self.view_is c.requires.cell in
    let step = c.place_array-done in
    rw (← c.self.view_is) (answers_only _ _ _ step.result step.ensures.done
    (λ done. arrayed_unrefused _ c.self.invariant _ below _ _ _ done c.lawful.ensures) step.ensures.fault
    (array_fault _ c.self.invariant _ below _ _))

pub returns-clause-placed : goal.returns-clause-placed
returns-clause-placed c =
    let below = here c.self.view_is c.requires.cell in
    let step = c.place_array-done in
    rw (← c.self.view_is) (on_ok_weaker step.result (λ done. seen_cells _ _ c.self.inside.contents step.new.tree _
    (arrayed_seen _ c.self.invariant _ below _ _ _ done c.lawful.ensures)) step.ensures.done)
