-- The laws of rows, as statements.
use Rattle.std.specs.Prelude.{◌≡◌, List}
use Rattle.ext_model.specs.declared.records.MergeRec.{MergeRec}
use Rattle.ext_model.specs.declared.arrays.MergeRow.{MergeRow}
use Rattle.ext_model.specs.Rows.{AreRowsOf}

-- merges have their rows in one way
abbrev pub RowsAreUnique : Type 0
RowsAreUnique = (merges : List MergeRec) (rows others : List MergeRow) → AreRowsOf merges rows → AreRowsOf merges others → rows ≡ others
