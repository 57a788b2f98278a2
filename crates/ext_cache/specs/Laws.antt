-- What records that agree with a library are held to.
use Rattle.std.specs.Prelude.{◌≡◌, ℕ, true, List}
use Rattle.use_orders.specs.Uses.{IsAtOrBelow}
use Rattle.tree_merges.specs.CellLibrary.Additions.{AreNextCells, children_in, with_all}
use Rattle.tree_merges.specs.CellLibrary.CellBodies.declared.bodies.CellBody.{CellBody}
use Rattle.tree_merges.specs.CellLibrary.Edits.{with_new_cell}
use Rattle.tree_merges.specs.CellLibrary.Libraries.{IsLawfulLibrary, IsNextCell, IsNextEdit, LibraryParts, seen}
use Rattle.tree_merges.specs.CellLibrary.Views.{CellView, with_cell_changed}
use Rattle.ext_cache.specs.Caches.{Agrees, Records, is_dirty, no_records}

-- where no records are kept, they agree with each library
abbrev pub NoRecordsAgree : Type 0
NoRecordsAgree = (library : LibraryParts) → Agrees library no_records

-- Records that agreed agree still, exactly those of the edited cell and of the cells above it are dirty now, and the others as before.
pub record KeepsAgreement (old new : LibraryParts) (records : Records) (cell : ℕ) : Type 0 where
  pub agrees : Agrees new records
  pub edited : (key : ℕ) → IsAtOrBelow (children_in (seen old)) key cell → is_dirty new records key ≡ true
  pub others : (key : ℕ) → (IsAtOrBelow (children_in (seen old)) key cell → ⊥) → is_dirty new records key ≡ is_dirty old records key

-- each edit of a cell of a lawful library keeps them so, whatever it changes of the cell
abbrev pub EditsKeepAgreement : Type 0
EditsKeepAgreement =
    (old new : LibraryParts) (records : Records) (cell : ℕ) (change : CellView → CellView) → IsLawfulLibrary old → IsNextEdit old new cell
    → seen new ≡ with_cell_changed (seen old) cell change → Agrees old records → KeepsAgreement old new records cell

-- Records that agreed agree still, and the same cells are dirty.
pub record KeepsAllMarks (old new : LibraryParts) (records : Records) : Type 0 where
  pub agrees : Agrees new records
  pub marks : (key : ℕ) → is_dirty new records key ≡ is_dirty old records key

-- a cell that comes keeps them so
abbrev pub NewCellsKeepAgreement : Type 0
NewCellsKeepAgreement =
    (old new : LibraryParts) (records : Records) (name : List ℕ) → IsLawfulLibrary old → IsNextCell old new
    → seen new ≡ with_new_cell (seen old) name → Agrees old records → KeepsAllMarks old new records

-- and so do cells that come all at once
abbrev pub AddedCellsKeepAgreement : Type 0
AddedCellsKeepAgreement =
    (old new : LibraryParts) (records : Records) (cells : List (List ℕ × CellBody)) → IsLawfulLibrary old → AreNextCells old new cells
    → seen new ≡ with_all (seen old) cells → Agrees old records → KeepsAllMarks old new records
