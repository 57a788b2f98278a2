use Rattle.cell_library.proofs.Common.{ℕ, length, refl, subst, sym, on_ok_weaker, on_err_weaker, IsSoundPaint, with_pieces, CanStandIn, IsLawfulView}
use Rattle.cell_library.proofs.Common.{LibraryParts, seen, repainted, view_at}
use Rattle.cell_library.proofs.EditLaws.{here, refused_same, lawful_or_refused, seen_cells}
use Rattle.cell_library.proofs.FaultLaws.{both_err, answers_memory}
use Rattle.cell_library.proofs.OwnRestorations.{has_room, nothing_refused, put_seen, put_lawful, sound_here}
use Rattle.cell_library.proofs.PaintEdits.{held_lawful, own_is}
use Rattle.cell_library.proofs.library.Library.put_back.Goals as goal

pub put_back_cell-done-requires-clause-pieces : goal.put_back_cell-done-requires-clause-pieces
put_back_cell-done-requires-clause-pieces c =
    subst (λ (count : ℕ). CanStandIn c.args.area count c.args.pieces.now)
    (sym (held_lawful _ c.self.invariant _ (here c.self.view_is c.requires.cell)).planes)
    (subst (λ (l : LibraryParts). CanStandIn c.args.area (length l.tech.planes) c.args.pieces.now) (sym c.self.view_is) c.requires.pieces)

pub put_back_cell-done-requires-clause-sound : goal.put_back_cell-done-requires-clause-sound
put_back_cell-done-requires-clause-sound c =
    sound_here _ c.self.invariant _ (here c.self.view_is c.requires.cell) _ _
    (subst (λ (l : LibraryParts). IsSoundPaint l.tech.types (with_pieces c.args.area c.args.pieces.now (view_at (seen l) c.args.cell.0).own))
    (sym c.self.view_is) c.requires.sound)

pub put_back_cell-done-requires-clause-room : goal.put_back_cell-done-requires-clause-room
put_back_cell-done-requires-clause-room c =
    has_room _ c.self.invariant _ (here c.self.view_is c.requires.cell)
    (λ body. record body { own = with_pieces c.args.area c.args.pieces.now body.own }) refl
    (subst (λ (l : LibraryParts). IsLawfulView (repainted (seen l) c.args.cell.0 c.args.area c.args.pieces.now)) (sym c.self.view_is) c.requires.lawful)

pub put_back_cell-done-requires-clause-own : goal.put_back_cell-done-requires-clause-own
put_back_cell-done-requires-clause-own c = own_is _ c.self.invariant _ (here c.self.view_is c.requires.cell)

pub invariant_of-self : goal.invariant_of-self
invariant_of-self c =
    let below = here c.self.view_is c.requires.cell in
    let step = c.put_back_cell-done in
    lawful_or_refused _ _ _ _ step.result c.self.invariant below step.ensures.done step.ensures.kept step.ensures.same
    (λ done. put_lawful _ c.self.invariant _ below _ _ _ _ done c.lawful.ensures)

pub returns-clause-answers : goal.returns-clause-answers
returns-clause-answers c =
    let step = c.put_back_cell-done in
    rw (← c.self.view_is) (answers_memory _ _ _ step.result step.ensures.done (λ done fault. nothing_refused _ fault done.edits) step.ensures.fault
    (λ told fault. fault))

pub returns-clause-put : goal.returns-clause-put
returns-clause-put c =
    let below = here c.self.view_is c.requires.cell in
    let step = c.put_back_cell-done in
    rw (← c.self.view_is) (on_ok_weaker step.result (λ done. seen_cells _ _ step.new.contents step.new.tree _
    (put_seen _ c.self.invariant _ below _ _ _ _ done c.lawful.ensures)) step.ensures.done)

pub returns-clause-refused : goal.returns-clause-refused
returns-clause-refused c =
    let step = c.put_back_cell-done in
    rw (← c.self.view_is) (on_err_weaker step.result (λ kept. refused_same _ _ _ _ c.self.invariant kept.0 kept.1)
    (both_err _ _ step.result step.ensures.kept step.ensures.same))
