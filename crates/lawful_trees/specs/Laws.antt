-- The law of the records of a library's cells, as a statement.
use Rattle.std.specs.Prelude.{ℕ}
use Rattle.ext_model.specs.declared.arrays.ArrayExt.{ArrayExt}
use Rattle.ext_model.specs.LawfulArrays.{IsLawfulArrayExt}
use Rattle.library_trees.specs.HierarchyModel.CleanCells.{IsClean}
use Rattle.library_trees.specs.CellLibrary.LayoutTrees.{tree_at}
use Rattle.library_trees.specs.CellLibrary.Libraries.{LibraryParts, seen}
use Rattle.library_trees.specs.CellRecords.{IsRecordOf}

-- where the cell is clean, its record is lawful
abbrev pub RecordIsLawful : LibraryParts → ℕ → Type 0
RecordIsLawful library cell =
    (ext : ArrayExt) → IsClean library.tech (tree_at (seen library) cell) → IsRecordOf (seen library) cell ext → IsLawfulArrayExt ext
