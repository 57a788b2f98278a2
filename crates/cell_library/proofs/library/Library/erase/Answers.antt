use Rattle.cell_library.proofs.Common.{on_ok_weaker, on_err_weaker}
use Rattle.cell_library.proofs.FaultLaws.{both_err, answers_memory}
use Rattle.cell_library.proofs.EditLaws.{here, refused_same, lawful_or_refused, seen_cells}
use Rattle.cell_library.proofs.PaintEdits.{own_is}
use Rattle.cell_library.proofs.OwnEdits.{erase_fault, erased_seen, erased_lawful, erased_unrefused}
use Rattle.cell_library.proofs.library.Library.erase.Goals as goal

pub erase_cell-done-requires-clause-own : goal.erase_cell-done-requires-clause-own
erase_cell-done-requires-clause-own c = own_is _ c.self.invariant _ (here c.self.view_is c.requires.cell)

pub invariant_of-self : goal.invariant_of-self
invariant_of-self c =
    let below = here c.self.view_is c.requires.cell in
    let step = c.erase_cell-done in
    lawful_or_refused _ _ _ _ step.result c.self.invariant below step.ensures.done step.ensures.kept step.ensures.same
    (λ done. erased_lawful _ c.self.invariant _ below _ _ _ _ done c.lawful.ensures)

pub returns-clause-answers : goal.returns-clause-answers
returns-clause-answers c =
    let below = here c.self.view_is c.requires.cell in
    let step = c.erase_cell-done in
    rw (← c.self.view_is) (answers_memory _ _ _ step.result step.ensures.done
    (λ done. erased_unrefused _ c.self.invariant _ below _ _ _ _ done c.lawful.ensures) step.ensures.fault
    (erase_fault _ c.self.invariant _ below _ _))

pub returns-clause-erased : goal.returns-clause-erased
returns-clause-erased c =
    let below = here c.self.view_is c.requires.cell in
    let step = c.erase_cell-done in
    rw (← c.self.view_is) (on_ok_weaker step.result (λ done. seen_cells _ _ step.new.contents step.new.tree _
    (erased_seen _ c.self.invariant _ below _ _ _ _ done c.lawful.ensures)) step.ensures.done)

pub returns-clause-refused : goal.returns-clause-refused
returns-clause-refused c =
    let step = c.erase_cell-done in
    rw (← c.self.view_is) (on_err_weaker step.result (λ kept. refused_same _ _ _ _ c.self.invariant kept.0 kept.1)
    (both_err _ _ step.result step.ensures.kept step.ensures.same))
