use Rattle.cell_library.proofs.Common.{refl, on_ok_weaker}
use Rattle.cell_library.proofs.EditLaws.{here, lawful_or_kept, seen_cells}
use Rattle.cell_library.proofs.FaultLaws.{answers_only, on_any_err}
use Rattle.cell_library.proofs.UseEdits.{delete_fault, deleted_seen, deleted_lawful, deleted_unrefused}
use Rattle.cell_library.proofs.library.Library.delete_use.Goals as goal

pub invariant_of-self : goal.invariant_of-self
invariant_of-self c =
    let below = here c.self.view_is c.requires in
    let step = c.delete_use-done in
    lawful_or_kept _ _ _ step.result c.self.invariant step.ensures.done (on_any_err _ step.result refl) step.ensures.same
    (λ done. deleted_lawful _ c.self.invariant _ below _ _ done c.lawful.ensures)

pub returns-clause-answers : goal.returns-clause-answers
returns-clause-answers c =
    let below = here c.self.view_is c.requires in
    let step = c.delete_use-done in
    rw (← c.self.view_is) (answers_only _ _ _ step.result step.ensures.done
    (λ done. deleted_unrefused _ c.self.invariant _ below _ _ done c.lawful.ensures) step.ensures.fault
    (delete_fault _ c.self.invariant _ below _))

pub returns-clause-deleted : goal.returns-clause-deleted
returns-clause-deleted c =
    let below = here c.self.view_is c.requires in
    let step = c.delete_use-done in
    rw (← c.self.view_is) (on_ok_weaker step.result (λ done. seen_cells _ _ c.self.inside.contents step.new.tree _
    (deleted_seen _ c.self.invariant _ below _ _ done c.lawful.ensures)) step.ensures.done)
