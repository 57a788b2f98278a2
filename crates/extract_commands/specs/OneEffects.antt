-- What the commands that extract a cell are held to: in a state with a lawful library each of them has one effect.
use Rattle.std.specs.Prelude.{◌≡◌, ℕ, ℤ, List}
use Rattle.outside_io.specs.Files.{Files}
use Rattle.session_model.specs.Effects.{Effect}
use Rattle.uniqueness.specs.CircuitCommands.declared.circuits.CircuitFile.{CircuitFile}
use Rattle.workspace.specs.States.{State}
use Rattle.extract_commands.specs.CommandCircuits.{CircuitMeans}
use Rattle.extract_commands.specs.CommandExtract.{ExtractMeans}
use Rattle.extract_commands.specs.CommandGenerate.{GenerateMeans}
use Rattle.extract_commands.specs.CommandVectors.{VectorsMeans}
use Rattle.extract_commands.specs.declared.command_vectors.VectorQuestion.{VectorQuestion}
use Rattle.workspace.specs.KeptSessions.{SeesSoundLibrary}

-- `extract` has one effect
abbrev pub ExtractMeansOneEffect : Type 0
ExtractMeansOneEffect =
    (number : ℕ) (state : State) (name : List ℕ) (effect other : Effect State) → SeesSoundLibrary state → ExtractMeans number state name effect
    → ExtractMeans number state name other → effect ≡ other

-- and so have `flat` and `sim`
abbrev pub CircuitMeansOneEffect : Type 0
CircuitMeansOneEffect =
    (file : CircuitFile) (number : ℕ) (state : State) (name : List ℕ) (effect other : Effect State) → SeesSoundLibrary state
    → CircuitMeans file number state name effect → CircuitMeans file number state name other → effect ≡ other

-- and `vectors` and `grade`
abbrev pub VectorsMeansOneEffect : Type 0
VectorsMeansOneEffect =
    (question : VectorQuestion) (budget number : ℕ) (state : State) (files : Files) (name file : List ℕ) (effect other : Effect State)
    → SeesSoundLibrary state → VectorsMeans question budget number state files name file effect
    → VectorsMeans question budget number state files name file other → effect ≡ other

-- And `generate`, which extracts a cell that it made. So the library after one of the effects, which has this cell, is to be lawful.
abbrev pub GenerateMeansOneEffect : Type 0
GenerateMeansOneEffect =
    (budget number : ℕ) (state : State) (count : ℤ) (effect other : Effect State) → SeesSoundLibrary effect.state
    → GenerateMeans budget number state count effect → GenerateMeans budget number state count other → effect ≡ other
