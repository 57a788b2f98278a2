-- The record of a cell of a library.
use Rattle.std.specs.Prelude.{◌≡◌, ℕ, List, map}
use Rattle.ext_model.specs.GeoCore.Images.{six_of}
use Rattle.ext_model.specs.declared.arrays.ArrayUse.{ArrayUse}
use Rattle.ext_model.specs.declared.arrays.ArrayExt.{ArrayExt}
use Rattle.ext_model.specs.Plain.{plain}
use Rattle.ext_model.specs.Rows.{AreRowsOf}
use Rattle.cell_library.specs.CellTree.declared.use_tables.UseBody.{UseBody}
use Rattle.cell_library.specs.Views.{LibraryView, view_at}
use Rattle.library_trees.specs.TreeRecords.TreeRecords.{IsTreeRecord}
use Rattle.library_trees.specs.NamedCells.{named_tree_at}

-- a use of a cell, with its grid where it is an array
abbrev pub library_use : LibraryView → List ℕ × UseBody → ArrayUse
library_use view entry = record { cell = (view_at view entry.1.child.0).name; id = entry.0; six = six_of entry.1.placed; grid = entry.1.grid }

-- the uses of a cell in their order
abbrev pub library_uses : LibraryView → ℕ → List ArrayUse
library_uses view cell = map (library_use view) (view_at view cell).uses

-- The record is the cell's: with each element and each merge by itself it says what the cell's tree is, its uses are those of the cell, and its
-- merges stand in rows that are as long as they can be.
pub record IsRecordOf (view : LibraryView) (cell : ℕ) (ext : ArrayExt) : Type 0 where
  pub means : IsTreeRecord view.tech (named_tree_at view cell) (plain ext)
  pub uses : ext.uses ≡ library_uses view cell
  pub merges : AreRowsOf (plain ext).merges ext.merges
