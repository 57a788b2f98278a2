-- The law of the circuit files that are stored of cells, as a statement.
use Rattle.std.specs.Prelude.{◌≡◌, ◌<◌, ℕ, length, Ok}
use Rattle.ext_model.specs.declared.arrays.ArrayExt.{ArrayExt}
use Rattle.ext_text.specs.WrittenTexts.{ext_text}
use Rattle.ext_reading.specs.ExtTexts.{ext_in}
use Rattle.ext_cache.specs.CellLibrary.Libraries.{LibraryParts, seen}
use Rattle.ext_cache.specs.Caches.{IsRecordNow}

-- the record of a cell of the library, as it is, is read back from its text and the cell's name
abbrev pub RecordsAreReadBack : LibraryParts → Type 0
RecordsAreReadBack library =
    (cell : ℕ) (ext : ArrayExt) → cell < length library.contents → IsRecordNow (seen library) cell ext → ext_in ext.cell (ext_text ext) ≡ Ok ext
