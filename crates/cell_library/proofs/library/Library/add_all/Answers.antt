use Rattle.cell_library.proofs.Common.{subst, sym, inl, inr, on_ok_weaker, CanBeAdded, LibraryParts, seen}
use Rattle.cell_library.proofs.AddedCells.{add_all_fault, all_added_lawful, all_added_next, all_added_seen, all_added_unrefused, cells_fit}
use Rattle.cell_library.proofs.FaultLaws.{ok_or_err, both_err, answers_memory}
use Rattle.cell_library.proofs.NewCells.{kept_all}
use Rattle.cell_library.proofs.library.Library.add_all.Goals as goal

pub add_cells-done-requires-clause-fit : goal.add_cells-done-requires-clause-fit
add_cells-done-requires-clause-fit c =
    cells_fit _ c.self.invariant _ (subst (λ (l : LibraryParts). CanBeAdded (seen l) c.args.cells.items) (sym c.self.view_is) c.requires)

pub invariant_of-self : goal.invariant_of-self
invariant_of-self c =
    let can = subst (λ (l : LibraryParts). CanBeAdded (seen l) c.args.cells.items) (sym c.self.view_is) c.requires in
    let step = c.add_cells-done in
    elim (ok_or_err _ _ step.result step.ensures.done
    (both_err _ _ step.result step.ensures.scale (both_err _ _ step.result step.ensures.kept step.ensures.same))) [
      | inl done ↦ all_added_lawful _ c.self.invariant _ can _ _ _ done c.lawful.ensures
      | inr kept ↦ kept_all _ _ _ _ c.self.invariant kept.0 kept.1.0 kept.1.1
    ]

pub returns-clause-answers : goal.returns-clause-answers
returns-clause-answers c =
    let can = subst (λ (l : LibraryParts). CanBeAdded (seen l) c.args.cells.items) (sym c.self.view_is) c.requires in
    let step = c.add_cells-done in
    rw (← c.self.view_is) (answers_memory _ _ _ step.result step.ensures.done
    (λ done. all_added_unrefused _ c.self.invariant _ can _ _ _ done c.lawful.ensures) step.ensures.fault (add_all_fault _ c.self.invariant _ can))

pub returns-clause-added : goal.returns-clause-added
returns-clause-added c =
    let can = subst (λ (l : LibraryParts). CanBeAdded (seen l) c.args.cells.items) (sym c.self.view_is) c.requires in
    let step = c.add_cells-done in
    rw (← c.self.view_is) (on_ok_weaker step.result (λ done. all_added_seen _ c.self.invariant _ can _ _ _ done c.lawful.ensures) step.ensures.done)

pub returns-clause-edit : goal.returns-clause-edit
returns-clause-edit c =
    let can = subst (λ (l : LibraryParts). CanBeAdded (seen l) c.args.cells.items) (sym c.self.view_is) c.requires in
    let step = c.add_cells-done in
    rw (← c.self.view_is) (on_ok_weaker step.result (λ done. all_added_next _ c.self.invariant _ can _ _ _ done c.lawful.ensures) step.ensures.done)
