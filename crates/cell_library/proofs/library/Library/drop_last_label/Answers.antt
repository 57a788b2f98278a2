use Rattle.cell_library.proofs.Common.{on_ok_weaker, without_last}
use Rattle.cell_library.proofs.BoxSteps.{upright_labels}
use Rattle.cell_library.proofs.EditLaws.{here, lawful_or_kept, seen_cells}
use Rattle.cell_library.proofs.FaultLaws.{answers_only}
use Rattle.cell_library.proofs.OwnRestorations.{lawful_without_last, nothing_refused, relabelled_seen, relabelled_lawful}
use Rattle.cell_library.proofs.PaintEdits.{held_lawful, own_is}
use Rattle.cell_library.proofs.library.Library.drop_last_label.Goals as goal

pub drop_last_label_of-done-requires-clause-own : goal.drop_last_label_of-done-requires-clause-own
drop_last_label_of-done-requires-clause-own c = own_is _ c.self.invariant _ (here c.self.view_is c.requires.cell)

pub drop_last_label_of-done-requires-clause-labels : goal.drop_last_label_of-done-requires-clause-labels
drop_last_label_of-done-requires-clause-labels c =
    upright_labels _ _ (held_lawful _ c.self.invariant _ (here c.self.view_is c.requires.cell)).labels

pub invariant_of-self : goal.invariant_of-self
invariant_of-self c =
    let below = here c.self.view_is c.requires.cell in
    let step = c.drop_last_label_of-done in
    lawful_or_kept _ _ _ step.result c.self.invariant step.ensures.done step.ensures.kept step.ensures.same
    (λ done. relabelled_lawful _ c.self.invariant _ below without_last (lawful_without_last _ c.self.invariant _ below) _ _ done c.lawful.ensures)

pub returns-clause-answers : goal.returns-clause-answers
returns-clause-answers c =
    let step = c.drop_last_label_of-done in
    rw (← c.self.view_is) (answers_only _ _ _ step.result step.ensures.done (λ done fault. nothing_refused _ fault done.edits) step.ensures.fault
    (λ told fault. fault))

pub returns-clause-dropped : goal.returns-clause-dropped
returns-clause-dropped c =
    let below = here c.self.view_is c.requires.cell in
    let step = c.drop_last_label_of-done in
    rw (← c.self.view_is) (on_ok_weaker step.result (λ done. seen_cells _ _ step.new.contents step.new.tree _
    (relabelled_seen _ c.self.invariant _ below without_last (lawful_without_last _ c.self.invariant _ below) _ _ done c.lawful.ensures))
    step.ensures.done)
