-- The law of the records of a library's cells, as a statement.
use Rattle.std.specs.Prelude.{◌≡◌, ℕ}
use Rattle.ext_model.specs.declared.arrays.ArrayExt.{ArrayExt}
use Rattle.edit_script.specs.CellLibrary.LayoutTrees.{tree_at}
use Rattle.edit_script.specs.CellLibrary.Libraries.{LibraryParts, seen}
use Rattle.library_trees.specs.HierarchyModel.CleanCells.{IsClean}
use Rattle.library_trees.specs.CellRecords.{IsRecordOf}

-- where the cell is clean, it has one record, with its arrays and its rows of merges
abbrev pub RecordIsUnique : LibraryParts → ℕ → Type 0
RecordIsUnique library cell =
    (ext other : ArrayExt) → IsClean library.tech (tree_at (seen library) cell) → IsRecordOf (seen library) cell ext
    → IsRecordOf (seen library) cell other → ext ≡ other
