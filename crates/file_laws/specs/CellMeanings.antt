-- What the CIF text of a cell means: the flat layout of the cell, part by part.
use Rattle.std.specs.Prelude.{◌≡◌, ◌↔◌, ◌<◌, true, ℕ, suc, List, length, slice_get, Some, Ok}
use Rattle.geo_core.specs.declared.squares.Square.{Square}
use Rattle.tech_model.specs.declared.raw.RawTech.{RawTech}
use Rattle.tech_model.specs.Types.{is_subset}
use Rattle.layout_model.specs.CellTrees.{CellTree}
use Rattle.layout_model.specs.FlatSets.{flat_sets}
use Rattle.cif_writing.specs.CellLibrary.CellPaint.Painting.{place_at}
use Rattle.cif_writing.specs.CellLibrary.LayoutTrees.{tree_at}
use Rattle.cif_writing.specs.CellLibrary.Libraries.{IsLawfulLibrary, LibraryParts, seen}
use Rattle.cif_model.specs.Cifs.{CifParts}
use Rattle.cif_model.specs.Meanings.{Means}
use Rattle.cif_writing.specs.Commands.{part_name}
use Rattle.cif_reading.specs.CifTexts.{cif_in}
use Rattle.cif_writing.specs.Parts.{part_sets}
use Rattle.cif_writing.specs.Symbols.{IsCifText}
use Rattle.file_laws.specs.CellCifs.{IsCellCif}

-- On some plane the flat layout of the tree has the part.
abbrev pub HoldsPartOfTree : RawTech → CellTree → ℕ → Square → Type 0
HoldsPartOfTree raw tree part square = (plane : ℕ) × (is_subset part (flat_sets raw tree (place_at plane square)) ≡ true)

-- The text gives the layer of each part exactly the squares where the flat layout of the tree has the part. Parts are numbered from 1.
abbrev pub MeansLayout : RawTech → CellTree → CifParts → Type 0
MeansLayout raw tree cif =
    (k part : ℕ) → slice_get (part_sets raw) k ≡ Some part → (square : Square)
    → Means cif (part_name (suc k)) square ↔ HoldsPartOfTree raw tree part square

-- what the text of a cell of a lawful library says, means the flat layout of the cell with all that stands below it
abbrev pub CellTextsMeanTheLayout : Type 0
CellTextsMeanTheLayout =
    (library : LibraryParts) (cell : ℕ) (cif : CifParts) → IsLawfulLibrary library → cell < length library.contents
    → IsCellCif (seen library) cell cif → MeansLayout library.tech (tree_at (seen library) cell) cif

-- The text is read without fault, and it means the flat layout of the tree.
abbrev pub IsReadAsLayout : RawTech → CellTree → List ℕ → Type 0
IsReadAsLayout raw tree text = (cif : CifParts) × (cif_in text ≡ Ok cif) × MeansLayout raw tree cif

-- so is the text of a cell of a lawful library, for the cell with all that stands below it
abbrev pub CellTextsAreReadAsTheLayout : Type 0
CellTextsAreReadAsTheLayout =
    (library : LibraryParts) (cell : ℕ) (text : List ℕ) → IsLawfulLibrary library → cell < length library.contents
    → IsCifText (seen library) cell text → IsReadAsLayout library.tech (tree_at (seen library) cell) text
