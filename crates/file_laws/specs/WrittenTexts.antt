-- What the text of a cell is read as.
use Rattle.std.specs.Prelude.{◌≡◌, ◌<◌, ℕ, List, length, Ok}
use Rattle.cif_writing.specs.CellLibrary.Libraries.{IsLawfulLibrary, LibraryParts, seen}
use Rattle.cif_model.specs.Cifs.{CifParts}
use Rattle.cif_reading.specs.CifTexts.{cif_in}
use Rattle.cif_writing.specs.Symbols.{IsCifText}
use Rattle.file_laws.specs.CellCifs.{IsCellCif}

-- The text is read without fault, and what it says is what the cell says.
abbrev pub IsReadAsWritten : LibraryParts → ℕ → List ℕ → Type 0
IsReadAsWritten library cell text = (cif : CifParts) × IsCellCif (seen library) cell cif × (cif_in text ≡ Ok cif)

-- So is the text of each cell of a lawful library.
abbrev pub WrittenTextsAreRead : Type 0
WrittenTextsAreRead =
    (library : LibraryParts) (cell : ℕ) (text : List ℕ) → IsLawfulLibrary library → cell < length library.contents
    → IsCifText (seen library) cell text → IsReadAsWritten library cell text
