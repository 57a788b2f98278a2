use Rattle.cell_library.proofs.Common.{ℕ, List, refl, subst, sym, IsTrue, on_ok_weaker, UseBody, IsLawfulView, LibraryParts, seen, has_id, regridded}
use Rattle.cell_library.proofs.Common.{view_at}
use Rattle.cell_library.proofs.EditLaws.{here, lawful_or_kept}
use Rattle.cell_library.proofs.FaultLaws.{answers_only, on_any_err}
use Rattle.cell_library.proofs.PutBackUses.{may_regrid, regridded_view, regridded_library, made_unrefused}
use Rattle.cell_library.proofs.UseEdits.{uses_here}
use Rattle.cell_library.proofs.library.Library.set_grid.Goals as goal

pub regrid-done-requires-clause-known : goal.regrid-done-requires-clause-known
regrid-done-requires-clause-known c =
    subst (λ (uses : List (List ℕ × UseBody)). IsTrue (has_id uses c.args.id.now))
    (uses_here _ c.self.invariant _ (here c.self.view_is c.requires.cell))
    (subst (λ (l : LibraryParts). IsTrue (has_id (view_at (seen l) c.args.cell.0).uses c.args.id.now)) (sym c.self.view_is) c.requires.known)

pub regrid-done-requires-clause-may : goal.regrid-done-requires-clause-may
regrid-done-requires-clause-may c =
    may_regrid _ c.self.invariant _ (here c.self.view_is c.requires.cell) _ _
    (subst (λ (l : LibraryParts). IsLawfulView (regridded (seen l) c.args.cell.0 c.args.id.now c.args.grid)) (sym c.self.view_is) c.requires.lawful)

pub invariant_of-self : goal.invariant_of-self
invariant_of-self c =
    let below = here c.self.view_is c.requires.cell in
    let step = c.regrid-done in
    lawful_or_kept _ _ _ step.result c.self.invariant step.ensures.done (on_any_err _ step.result refl) step.ensures.same
    (λ done. regridded_library _ c.self.invariant _ below _ _ _ done c.lawful.ensures)

pub returns-clause-answers : goal.returns-clause-answers
returns-clause-answers c =
    let step = c.regrid-done in
    rw (← c.self.view_is) (answers_only _ _ _ step.result step.ensures.done (λ done. made_unrefused _ done.edits) step.ensures.fault
    (λ told fault. fault))

pub returns-clause-set : goal.returns-clause-set
returns-clause-set c =
    let below = here c.self.view_is c.requires.cell in
    let step = c.regrid-done in
    rw (← c.self.view_is) (on_ok_weaker step.result (λ done. regridded_view _ c.self.invariant _ below _ _ _ done) step.ensures.done)
