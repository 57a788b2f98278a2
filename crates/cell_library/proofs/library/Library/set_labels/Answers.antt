use Rattle.cell_library.proofs.Common.{List, refl, subst, sym, on_ok_weaker, Label, IsLawfulView, LibraryParts, seen, relabelled}
use Rattle.cell_library.proofs.EditLaws.{here, lawful_or_kept, seen_cells}
use Rattle.cell_library.proofs.FaultLaws.{answers_only}
use Rattle.cell_library.proofs.OwnRestorations.{has_room, lawful_labels, nothing_refused, relabelled_seen, relabelled_lawful}
use Rattle.cell_library.proofs.library.Library.set_labels.Goals as goal

pub set_labels_of-done-requires-clause-room : goal.set_labels_of-done-requires-clause-room
set_labels_of-done-requires-clause-room c =
    has_room _ c.self.invariant _ (here c.self.view_is c.requires.cell) (λ body. record body { labels = c.args.labels.items }) refl
    (subst (λ (l : LibraryParts). IsLawfulView (relabelled (seen l) c.args.cell.0 c.args.labels.items)) (sym c.self.view_is) c.requires.lawful)

pub invariant_of-self : goal.invariant_of-self
invariant_of-self c =
    let below = here c.self.view_is c.requires.cell in
    let view = subst (λ (l : LibraryParts). IsLawfulView (relabelled (seen l) c.args.cell.0 c.args.labels.items)) (sym c.self.view_is) c.requires.lawful in
    let step = c.set_labels_of-done in
    lawful_or_kept _ _ _ step.result c.self.invariant step.ensures.done step.ensures.kept step.ensures.same
    (λ done. relabelled_lawful _ c.self.invariant _ below (λ (old : List Label). c.args.labels.items)
    (lawful_labels _ c.self.invariant _ below _ view) _ _ done c.lawful.ensures)

pub returns-clause-answers : goal.returns-clause-answers
returns-clause-answers c =
    let step = c.set_labels_of-done in
    rw (← c.self.view_is) (answers_only _ _ _ step.result step.ensures.done (λ done fault. nothing_refused _ fault done.edits) step.ensures.fault
    (λ told fault. fault))

pub returns-clause-set : goal.returns-clause-set
returns-clause-set c =
    let below = here c.self.view_is c.requires.cell in
    let view = subst (λ (l : LibraryParts). IsLawfulView (relabelled (seen l) c.args.cell.0 c.args.labels.items)) (sym c.self.view_is) c.requires.lawful in
    let step = c.set_labels_of-done in
    rw (← c.self.view_is) (on_ok_weaker step.result (λ done. seen_cells _ _ step.new.contents step.new.tree _
    (relabelled_seen _ c.self.invariant _ below (λ (old : List Label). c.args.labels.items) (lawful_labels _ c.self.invariant _ below _ view) _ _ done
    c.lawful.ensures)) step.ensures.done)
