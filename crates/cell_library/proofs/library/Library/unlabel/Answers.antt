use Rattle.cell_library.proofs.Common.{on_ok_weaker}
use Rattle.cell_library.proofs.EditLaws.{here, lawful_or_kept, seen_cells}
use Rattle.cell_library.proofs.FaultLaws.{answers_only}
use Rattle.cell_library.proofs.OwnEdits.{unlabel_fault, unlabelled_seen, unlabelled_lawful, unlabelled_unrefused}
use Rattle.cell_library.proofs.PaintEdits.{own_is}
use Rattle.cell_library.proofs.library.Library.unlabel.Goals as goal

pub unlabel_cell-done-requires-clause-own : goal.unlabel_cell-done-requires-clause-own
unlabel_cell-done-requires-clause-own c = own_is _ c.self.invariant _ (here c.self.view_is c.requires)

pub invariant_of-self : goal.invariant_of-self
invariant_of-self c =
    let below = here c.self.view_is c.requires in
    let step = c.unlabel_cell-done in
    lawful_or_kept _ _ _ step.result c.self.invariant step.ensures.done step.ensures.kept step.ensures.same
    (λ done. unlabelled_lawful _ c.self.invariant _ below _ _ _ done c.lawful.ensures)

pub returns-clause-answers : goal.returns-clause-answers
returns-clause-answers c =
    let below = here c.self.view_is c.requires in
    let step = c.unlabel_cell-done in
    rw (← c.self.view_is) (answers_only _ _ _ step.result step.ensures.done
    (λ done. unlabelled_unrefused _ c.self.invariant _ below _ _ _ done c.lawful.ensures) step.ensures.fault
    (unlabel_fault _ c.self.invariant _ below _))

pub returns-clause-unlabelled : goal.returns-clause-unlabelled
returns-clause-unlabelled c =
    let below = here c.self.view_is c.requires in
    let step = c.unlabel_cell-done in
    rw (← c.self.view_is) (on_ok_weaker step.result (λ done. seen_cells _ _ step.new.contents step.new.tree _
    (unlabelled_seen _ c.self.invariant _ below _ _ _ done c.lawful.ensures)) step.ensures.done)
