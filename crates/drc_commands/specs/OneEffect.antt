-- What the command is held to: it has one effect.
use Rattle.std.specs.Prelude.{◌≡◌, ℕ, List}
use Rattle.outside_io.specs.Files.{Files}
use Rattle.cell_library.specs.Views.{LibraryView}
use Rattle.line_answers.specs.LineEffects.{FreeEffect}
use Rattle.drc_commands.specs.CommandDrc.{DrcMeans}

-- `drc` does one thing to a cell of a library
abbrev pub DrcMeansOneEffect : Type 0
DrcMeansOneEffect =
    (number : ℕ) (files : Files) (library : LibraryView) (cell : ℕ) (name file : List ℕ) (effect other : FreeEffect)
    → DrcMeans number files library cell name file effect → DrcMeans number files library cell name file other → effect ≡ other
