-- The laws of records that are kept, as statements.
use Rattle.std.specs.Prelude.{◌≡◌, ◌<◌, ℕ, List, length, map}
use Rattle.finite_sets.specs.Lists.{In}
use Rattle.ext_model.specs.declared.arrays.ArrayExt.{ArrayExt}
use Rattle.ext_model.specs.declared.records.CellExt.{CellExt}
use Rattle.ext_model.specs.Plain.{plain}
use Rattle.cell_library.specs.Libraries.{LibraryParts, seen}
use Rattle.library_trees.specs.TreeRecords.TreeRecords.{HasTreeRecords, HaveTreeRecords}
use Rattle.library_trees.specs.TreeRecords.NamedTrees.{named_elements_in}
use Rattle.library_trees.specs.NamedCells.{IsAtOrBelow, named_tree_at}
use Rattle.library_trees.specs.KeptRecords.{KeptRecords, HasKeptRecord, HaveKeptRecordsBelow}

-- where records are kept of all cells below a cell of the library, the elements of its tree have the records of some list
abbrev pub KeptRecordsAreOfTheTree : LibraryParts → Type 0
KeptRecordsAreOfTheTree library =
    (kept : KeptRecords) (cell : ℕ) → cell < length library.contents → HaveKeptRecordsBelow (seen library) kept cell
    → (exts : List CellExt) × HaveTreeRecords library.tech exts (named_elements_in (named_tree_at (seen library) cell))

-- a list that has the kept record of each cell at and below a cell of the library, and records of other names or the same besides, has the
-- records of the cell's tree, with each element and each merge by itself
abbrev pub ListedRecordsAreOfTheTree : LibraryParts → Type 0
ListedRecordsAreOfTheTree library =
    (kept : KeptRecords) (cell : ℕ) (exts : List ArrayExt) → cell < length library.contents
    → ((below : ℕ) → IsAtOrBelow (seen library) cell below → (has : HasKeptRecord (seen library) kept below) × In has.ext exts)
    → ((ext : ArrayExt) → In ext exts → (below : ℕ) × (below < length library.contents) × (has : HasKeptRecord (seen library) kept below) × (has.ext ≡ ext))
    → HasTreeRecords library.tech (map plain exts) (named_tree_at (seen library) cell)
