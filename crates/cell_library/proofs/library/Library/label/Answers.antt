use Rattle.cell_library.proofs.Common.{◌<◌, length, subst, sym, IfSome, on_ok_weaker, LibraryParts}
use Rattle.cell_library.proofs.EditLaws.{here, lawful_or_kept, seen_cells}
use Rattle.cell_library.proofs.FaultLaws.{answers_memory}
use Rattle.cell_library.proofs.OwnEdits.{label_fault, labelled_seen, labelled_lawful, labelled_unrefused}
use Rattle.cell_library.proofs.library.Library.label.Goals as goal

pub invariant_of-self : goal.invariant_of-self
invariant_of-self c =
    let below = here c.self.view_is c.requires.cell in
    let layer = subst (λ (l : LibraryParts). IfSome c.args.label.layer (λ layer. layer.0 < length l.tech.layers)) (sym c.self.view_is) c.requires.layer in
    let step = c.label_cell-done in
    lawful_or_kept _ _ _ step.result c.self.invariant step.ensures.done step.ensures.kept step.ensures.same
    (λ done. labelled_lawful _ c.self.invariant _ below _ _ _ done c.lawful.ensures layer c.requires.position c.requires.text)

pub returns-clause-answers : goal.returns-clause-answers
returns-clause-answers c =
    let below = here c.self.view_is c.requires.cell in
    let layer = subst (λ (l : LibraryParts). IfSome c.args.label.layer (λ layer. layer.0 < length l.tech.layers)) (sym c.self.view_is) c.requires.layer in
    let step = c.label_cell-done in
    rw (← c.self.view_is) (answers_memory _ _ _ step.result step.ensures.done
    (λ done. labelled_unrefused _ c.self.invariant _ below _ _ _ done c.lawful.ensures layer c.requires.position c.requires.text)
    step.ensures.fault (label_fault _ c.self.invariant _ below _))

pub returns-clause-labelled : goal.returns-clause-labelled
returns-clause-labelled c =
    let below = here c.self.view_is c.requires.cell in
    let layer = subst (λ (l : LibraryParts). IfSome c.args.label.layer (λ layer. layer.0 < length l.tech.layers)) (sym c.self.view_is) c.requires.layer in
    let step = c.label_cell-done in
    rw (← c.self.view_is) (on_ok_weaker step.result (λ done. seen_cells _ _ step.new.contents step.new.tree _
    (labelled_seen _ c.self.invariant _ below _ _ _ done c.lawful.ensures layer c.requires.position c.requires.text)) step.ensures.done)
