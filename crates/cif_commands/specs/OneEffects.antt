-- What the commands are held to: each has one effect.
use Rattle.std.specs.Prelude.{◌≡◌, ◌<◌, ℕ, List, length}
use Rattle.outside_io.specs.Files.{Files}
use Rattle.cell_library.specs.Libraries.{IsLawfulLibrary, LibraryParts, seen}
use Rattle.line_answers.specs.LineEffects.{FreeEffect}
use Rattle.cif_commands.specs.CommandCif.{CifMeans}
use Rattle.cif_commands.specs.CommandCifstat.{CifstatMeans}

-- `cif` does one thing to a cell of a lawful library
abbrev pub CifMeansOneEffect : Type 0
CifMeansOneEffect =
    (number : ℕ) (library : LibraryParts) (cell : ℕ) (name : List ℕ) (effect other : FreeEffect) → IsLawfulLibrary library
    → cell < length library.contents → CifMeans number (seen library) cell name effect → CifMeans number (seen library) cell name other
    → effect ≡ other

-- and so does `cifstat`, for each number of its line and files
abbrev pub CifstatMeansOneEffect : Type 0
CifstatMeansOneEffect =
    (number : ℕ) (files : Files) (name : List ℕ) (effect other : FreeEffect) → CifstatMeans number files name effect
    → CifstatMeans number files name other → effect ≡ other
