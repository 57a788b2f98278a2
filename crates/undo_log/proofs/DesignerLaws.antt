-- After an edit and its undo each cell has what it had, and redo gives back what undo took.
use Rattle.undo_log.proofs.Common.{◌≡◌, ◌<◌, ℕ, true, [], ◌∷◌, length, refl, sym, ap, subst, ◌∙◌, inl, inr, arith, Option, Some, cases_eq, CellView}
use Rattle.undo_log.proofs.Common.{LibraryView, view_at, Command, Editing, applied, Versions, is_edit, version_of, versions_after, with_version}
use Rattle.std.specs.Prelude.{IfSome}
use Rattle.edit_script.specs.ScriptLines.declared.commands.Command.TheVariants as command
use Rattle.edit_script.proofs.KeptCells.{KeepsButCurrent, KeepsOthers, cells_kept}
use Rattle.undo_log.specs.Laws.{AreAlike, EditsAreTakenBack, HaveTheSame}
use Rattle.undo_log.specs.Versions.{undone}
use Rattle.undo_log.proofs.CellLaws.{cell_here, cell_other, count_kept}
use Rattle.undo_log.proofs.LeadLaws.{edit_versions}

-- an edit leaves all cells but the current one
edit_keeps : (editing : Editing) (command : Command) → is_edit command ≡ true → KeepsButCurrent editing command
edit_keeps editing (command.Paint layer area) edit = cells_kept editing (command.Paint layer area)
edit_keeps editing (command.Erase layer area) edit = cells_kept editing (command.Erase layer area)
edit_keeps editing (command.Place name id six) edit = cells_kept editing (command.Place name id six)
edit_keeps editing (command.Array id six) edit = cells_kept editing (command.Array id six)
edit_keeps editing (command.Move id dx dy) edit = cells_kept editing (command.Move id dx dy)
edit_keeps editing (command.Delete id) edit = cells_kept editing (command.Delete id)
edit_keeps editing (command.Label layer area position text) edit = cells_kept editing (command.Label layer area position text)
edit_keeps editing (command.Unlabel text) edit = cells_kept editing (command.Unlabel text)
edit_keeps editing command edit = absurd (cc)

-- a cell has the same as one that it equals
same_has : (a b : CellView) → a ≡ b → HaveTheSame a b
same_has a b same = record {
  own = λ place. ap (λ (body : CellView). body.own place) same;
  uses = ap (λ (body : CellView). body.uses) same;
  labels = ap (λ (body : CellView). body.labels) same;
}

-- a library that has the version of one cell, and differs from this one in no other
brought : (view other : LibraryView) (cell : ℕ) → cell < length view.cells → KeepsOthers cell other view
    → AreAlike (with_version view (version_of other cell)) other
brought view other cell there keeps = record {
  count = count_kept view cell (λ _. view_at other cell) ∙ keeps.count;
  each = λ k. elim (cases_eq k cell) [
    | inl here ↦
        same_has (view_at (with_version view (version_of other cell)) k) (view_at other k)
        (ap (view_at (with_version view (version_of other cell))) here ∙ cell_here view cell (λ _. view_at other cell) there
        ∙ ap (view_at other) (sym here))
    | inr apart ↦
        same_has (view_at (with_version view (version_of other cell)) k) (view_at other k)
        (cell_other view cell k (λ _. view_at other cell) apart ∙ keeps.others k apart)
  ];
}

-- the other cells stay when a version is brought back
version_keeps : (view other after : LibraryView) (cell : ℕ) → KeepsOthers cell after view
    → KeepsOthers cell after (with_version view (version_of other cell))
version_keeps view other after cell keeps = record {
  tech = keeps.tech;
  count = count_kept view cell (λ _. view_at other cell) ∙ keeps.count;
  others = λ k apart. cell_other view cell k (λ _. view_at other cell) apart ∙ keeps.others k apart;
}

-- edits are taken back
pub taken_back_and_again : EditsAreTakenBack
taken_back_and_again editing command versions cell is there edit =
    let before : LibraryView = editing.library in
    let after : LibraryView = (applied editing command).library in
    let keeps : KeepsOthers cell before after =
    subst (λ (found : Option ℕ). IfSome found (λ at. KeepsOthers at before after)) is (edit_keeps editing command edit) in
    let kept : Versions = versions_after editing command versions in
    let taken : undone after kept ≡ Some (record {
      cell = cell;
      library = with_version after (version_of before cell);
      earlier = versions.done;
      later = version_of after cell ∷ [];
    }) = ap (undone after) (edit_versions editing command versions cell is edit) in
    let library : LibraryView = with_version after (version_of before cell) in
    let in_after : cell < length after.cells = (let count = keeps.count in omega arith) in
    let in_library : cell < length library.cells =
    (let count = count_kept after cell (λ _. view_at before cell) in omega arith) in (
      record { cell = cell; library = library; earlier = versions.done; later = version_of after cell ∷ [] },
      record { is = taken; alike = brought after before cell in_after keeps },
      (
        record {
          cell = cell;
          library = with_version library (version_of after cell);
          earlier = [];
          later = version_of library cell ∷ versions.done;
        },
        record {
          is = refl;
          alike = brought library after cell in_library (version_keeps after before after cell (self_keeps after cell));
        },
      ),
    )
  where
    self_keeps : (view : LibraryView) (at : ℕ) → KeepsOthers at view view
    self_keeps view at = record { tech = refl; count = refl; others = λ k apart. refl }
