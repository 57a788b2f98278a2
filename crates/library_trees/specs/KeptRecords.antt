-- The records that are kept of the cells of a library.
use Rattle.std.specs.Prelude.{◌≡◌, ℕ, Option, Some}
use Rattle.ext_model.specs.declared.arrays.ArrayExt.{ArrayExt}
use Rattle.ext_model.specs.LawfulArrays.{IsLawfulArrayExt}
use Rattle.ext_model.specs.Plain.{plain}
use Rattle.cell_library.specs.CellTree.Uses.{HasChild}
use Rattle.cell_library.specs.Views.{LibraryView, view_at}
use Rattle.library_trees.specs.TreeRecords.TreeRecords.{IsTreeRecord}
use Rattle.library_trees.specs.NamedCells.{IsAtOrBelow, named_tree_at}

-- the record that is kept of a cell, by its position
abbrev pub KeptRecords : Type 0
KeptRecords = ℕ → Option ArrayExt

-- The second cell stands below the first, by a chain of uses.
pub record IsBelow (view : LibraryView) (cell below : ℕ) : Type 0 where
  pub child : ℕ
  pub uses : HasChild (view_at view cell).uses child
  pub at_or_below : IsAtOrBelow view child below

-- A record of the cell is kept, and what it says, with each element and each merge by itself, is that of the cell as it is.
pub record HasKeptRecord (view : LibraryView) (kept : KeptRecords) (cell : ℕ) : Type 0 where
  pub ext : ArrayExt
  pub is_kept : kept cell ≡ Some ext
  pub lawful : IsLawfulArrayExt ext
  pub is : IsTreeRecord view.tech (named_tree_at view cell) (plain ext)

-- The same of each cell below the cell.
abbrev pub HaveKeptRecordsBelow : LibraryView → KeptRecords → ℕ → Type 0
HaveKeptRecordsBelow view kept cell = (below : ℕ) → IsBelow view cell below → HasKeptRecord view kept below
