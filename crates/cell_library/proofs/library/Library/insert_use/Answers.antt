use Rattle.cell_library.proofs.Common.{◌≤◌, ℕ, List, length, refl, subst, sym, on_ok_weaker, UseBody, IsLawfulView, LibraryParts, seen, with_use_at}
use Rattle.cell_library.proofs.Common.{view_at}
use Rattle.cell_library.proofs.EditLaws.{here, lawful_or_kept}
use Rattle.cell_library.proofs.FaultLaws.{answers_memory, on_any_err}
use Rattle.cell_library.proofs.PutBackUses.{may_insert, inserted_view, inserted_lawful, made_unrefused}
use Rattle.cell_library.proofs.UseEdits.{uses_here}
use Rattle.cell_library.proofs.library.Library.insert_use.Goals as goal

pub insert_use-done-requires-clause-place : goal.insert_use-done-requires-clause-place
insert_use-done-requires-clause-place c =
    subst (λ (uses : List (List ℕ × UseBody)). c.args.at ≤ length uses) (uses_here _ c.self.invariant _ (here c.self.view_is c.requires.cell))
    (subst (λ (l : LibraryParts). c.args.at ≤ length (view_at (seen l) c.args.cell.0).uses) (sym c.self.view_is) c.requires.place)

pub insert_use-done-requires-clause-may : goal.insert_use-done-requires-clause-may
insert_use-done-requires-clause-may c =
    may_insert _ c.self.invariant _ (here c.self.view_is c.requires.cell) _ _ _
    (subst (λ (l : LibraryParts). IsLawfulView (with_use_at (seen l) c.args.cell.0 c.args.at c.args.id c.args.used)) (sym c.self.view_is) c.requires.lawful)

pub invariant_of-self : goal.invariant_of-self
invariant_of-self c =
    let below = here c.self.view_is c.requires.cell in
    let view = subst (λ (l : LibraryParts). IsLawfulView (with_use_at (seen l) c.args.cell.0 c.args.at c.args.id c.args.used)) (sym c.self.view_is)
    c.requires.lawful in
    let step = c.insert_use-done in
    lawful_or_kept _ _ _ step.result c.self.invariant step.ensures.done (on_any_err _ step.result refl) step.ensures.same
    (λ done. inserted_lawful _ c.self.invariant _ below _ _ _ view _ done c.lawful.ensures)

pub returns-clause-answers : goal.returns-clause-answers
returns-clause-answers c =
    let step = c.insert_use-done in
    rw (← c.self.view_is) (answers_memory _ _ _ step.result step.ensures.done (λ done. made_unrefused _ done.edits) step.ensures.fault
    (λ told fault. fault))

pub returns-clause-inserted : goal.returns-clause-inserted
returns-clause-inserted c =
    let below = here c.self.view_is c.requires.cell in
    let view = subst (λ (l : LibraryParts). IsLawfulView (with_use_at (seen l) c.args.cell.0 c.args.at c.args.id c.args.used)) (sym c.self.view_is)
    c.requires.lawful in
    let step = c.insert_use-done in
    rw (← c.self.view_is) (on_ok_weaker step.result (λ done. inserted_view _ c.self.invariant _ below _ _ _ view _ done) step.ensures.done)
