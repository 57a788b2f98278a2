use Rattle.cell_library.proofs.Common.{◌<◌, length, subst, sym, on_ok_weaker, on_err_weaker, LibraryParts}
use Rattle.cell_library.proofs.EditLaws.{here, refused_same, lawful_or_refused, seen_cells}
use Rattle.cell_library.proofs.FaultLaws.{both_err, answers_memory}
use Rattle.cell_library.proofs.PaintEdits.{paint_fault, painted_seen, painted_lawful, painted_unrefused}
use Rattle.cell_library.proofs.library.Library.paint.Goals as goal

pub invariant_of-self : goal.invariant_of-self
invariant_of-self c =
    let below = here c.self.view_is c.requires.cell in
    let layer = subst (λ (l : LibraryParts). c.args.layer.0 < length l.tech.layers) (sym c.self.view_is) c.requires.layer in
    let step = c.paint_cell-done in
    lawful_or_refused _ _ _ _ step.result c.self.invariant below step.ensures.done step.ensures.kept step.ensures.same
    (λ done. painted_lawful _ c.self.invariant _ below _ layer _ c.sound.ensures _ _ done c.lawful.ensures)

pub returns-clause-answers : goal.returns-clause-answers
returns-clause-answers c =
    let below = here c.self.view_is c.requires.cell in
    let layer = subst (λ (l : LibraryParts). c.args.layer.0 < length l.tech.layers) (sym c.self.view_is) c.requires.layer in
    let step = c.paint_cell-done in
    rw (← c.self.view_is) (answers_memory _ _ _ step.result step.ensures.done
    (λ done. painted_unrefused _ c.self.invariant _ below _ layer _ c.sound.ensures _ _ done c.lawful.ensures) step.ensures.fault
    (paint_fault _ c.self.invariant _ below _ layer _ c.sound.ensures))

pub returns-clause-painted : goal.returns-clause-painted
returns-clause-painted c =
    let below = here c.self.view_is c.requires.cell in
    let layer = subst (λ (l : LibraryParts). c.args.layer.0 < length l.tech.layers) (sym c.self.view_is) c.requires.layer in
    let step = c.paint_cell-done in
    rw (← c.self.view_is) (on_ok_weaker step.result (λ done. seen_cells _ _ step.new.contents step.new.tree _
    (painted_seen _ c.self.invariant _ below _ layer _ c.sound.ensures _ _ done c.lawful.ensures)) step.ensures.done)

pub returns-clause-refused : goal.returns-clause-refused
returns-clause-refused c =
    let step = c.paint_cell-done in
    rw (← c.self.view_is) (on_err_weaker step.result (λ kept. refused_same _ _ _ _ c.self.invariant kept.0 kept.1)
    (both_err _ _ step.result step.ensures.kept step.ensures.same))
