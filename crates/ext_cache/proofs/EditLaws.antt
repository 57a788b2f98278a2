-- Records after an edit of a cell: the cell and those above it are dirty, and the others are as before.
use Rattle.ext_cache.proofs.Common.{◌≡◌, ◌≤◌, ℕ, true, length, Some, ap, inl, inr, arith, IsAtOrBelow, ExtEntry, IsAbove, children_in, LibraryParts}
use Rattle.ext_cache.proofs.Common.{IsLawfulLibrary, seen, CellView, Agrees, Records, entry_in, is_dirty, is_stale, stamp_in}
use Rattle.std.proofs.lemmas.Bool.{cases_lt}
use Rattle.tree_merges.specs.CellLibrary.Libraries.{IsNextEdit}
use Rattle.tree_merges.specs.CellLibrary.Views.{with_cell_changed}
use Rattle.tree_merges.proofs.ElementPaths.LibraryTrees.StampedTrees.{stamps_keep_views}
use Rattle.ext_cache.proofs.AboveLaws.{above_leads_down, leads_down_from_above}
use Rattle.ext_cache.proofs.RecordLaws.{agrees_with, stale_if}

module _ (old new : LibraryParts) (records : Records) (cell : ℕ) (lawful : IsLawfulLibrary old) (edit : IsNextEdit old new cell)
    (agrees : Agrees old records) where
  -- a record of a cell at or above the one that was edited has an earlier stamp
  earlier_above : (key : ℕ) (entry : ExtEntry) → entry_in records key ≡ Some entry → IsAbove old.tree.cells cell key → entry.stamp ≡ stamp_in new key → ⊥
  earlier_above key entry is above stamp =
      omega (arith, agrees.past key entry is, lawful.tree.past key, edit.stamps.raised key above, edit.edits)

  -- no stamp falls
  past_edit : (key : ℕ) (entry : ExtEntry) → entry_in records key ≡ Some entry → entry.stamp ≤ stamp_in new key
  past_edit key entry is = elim (cases_lt (stamp_in new key) entry.stamp) [
    | inl later ↦
        let free : IsAbove old.tree.cells cell key → ⊥ = λ above.
        omega (arith, later, agrees.past key entry is, lawful.tree.past key, edit.stamps.raised key above, edit.edits) in
        omega (arith, later, agrees.past key entry is, edit.stamps.others key free)
    | inr past ↦ past
  ]

  -- Where that cell alone changes, records agree after the edit.
  pub agrees_edit : length (seen new).cells ≡ length (seen old).cells → (seen new).tech ≡ (seen old).tech
      → (change : CellView → CellView) → seen new ≡ with_cell_changed (seen old) cell change → Agrees new records
  agrees_edit count tech change after =
      agrees_with old new records (omega arith) tech past_edit (λ key entry is stamp.
      let free : IsAbove old.tree.cells cell key → ⊥ = λ above. earlier_above key entry is above stamp in
      let kept : stamp_in new key ≡ stamp_in old key = edit.stamps.others key free in
      (kept, stamps_keep_views old lawful new cell change edit after key kept)) agrees

  -- A cell that has the edited one at or below itself is dirty.
  pub dirty_edit : (key : ℕ) → IsAtOrBelow (children_in (seen old)) key cell → is_dirty new records key ≡ true
  dirty_edit key below =
      stale_if (entry_in records key) (stamp_in new key) (λ entry is. earlier_above key entry is (leads_down_from_above old cell key lawful below))

  -- Any other cell is dirty as before.
  pub dirty_unedited : (key : ℕ) → (IsAtOrBelow (children_in (seen old)) key cell → ⊥) → is_dirty new records key ≡ is_dirty old records key
  dirty_unedited key free =
      ap (is_stale (entry_in records key)) (edit.stamps.others key (λ above. free (above_leads_down old cell key lawful above)))
