-- What the commands on a library are held to: each has one effect.
use Rattle.std.specs.Prelude.{◌≡◌, ℕ, List}
use Rattle.outside_io.specs.Files.{Files}
use Rattle.session_model.specs.Effects.{Effect}
use Rattle.script_lines.specs.declared.commands.Command.{Command}
use Rattle.look_commands.specs.declared.looks.Look.{Look}
use Rattle.workspace.specs.KeptSessions.{SeesSoundLibrary}
use Rattle.workspace.specs.States.{State}
use Rattle.library_commands.specs.CommandChecks.{CheckMeans}
use Rattle.library_commands.specs.CommandCif.{WriteMeans}
use Rattle.library_commands.specs.CommandEdits.{EditMeans}
use Rattle.library_commands.specs.CommandLoad.{LoadMeans}
use Rattle.library_commands.specs.CommandLooks.{LookMeans}
use Rattle.library_commands.specs.CommandReturns.{ReturnMeans}
use Rattle.library_commands.specs.CommandTech.{TechMeans}
use Rattle.library_commands.specs.declared.command_returns.Way.{Way}

-- `tech` has one effect
abbrev pub TechMeansOneEffect : Type 0
TechMeansOneEffect =
    (number : ℕ) (state : State) (files : Files) (name : List ℕ) (effect other : Effect State) → TechMeans number state files name effect
    → TechMeans number state files name other → effect ≡ other

-- and `load`
abbrev pub LoadMeansOneEffect : Type 0
LoadMeansOneEffect =
    (number : ℕ) (state : State) (files : Files) (cell : List ℕ) (effect other : Effect State) → LoadMeans number state files cell effect
    → LoadMeans number state files cell other → effect ≡ other

-- and each command that edits
abbrev pub EditMeansOneEffect : Type 0
EditMeansOneEffect =
    (number : ℕ) (state : State) (command : Command) (effect other : Effect State) → EditMeans number state command effect
    → EditMeans number state command other → effect ≡ other

-- and `undo` and `redo`
abbrev pub ReturnMeansOneEffect : Type 0
ReturnMeansOneEffect =
    (way : Way) (number : ℕ) (state : State) (effect other : Effect State) → ReturnMeans way number state effect → ReturnMeans way number state other
    → effect ≡ other

-- and each that looks at a cell of a lawful library
abbrev pub LookMeansOneEffect : Type 0
LookMeansOneEffect =
    (look : Look) (number : ℕ) (state : State) (name : List ℕ) (effect other : Effect State) → SeesSoundLibrary state
    → LookMeans look number state name effect → LookMeans look number state name other → effect ≡ other

-- and a check by design rules
abbrev pub CheckMeansOneEffect : Type 0
CheckMeansOneEffect =
    (number : ℕ) (state : State) (files : Files) (name file : List ℕ) (effect other : Effect State) → CheckMeans number state files name file effect
    → CheckMeans number state files name file other → effect ≡ other

-- and a cell that is written as a CIF text
abbrev pub WriteMeansOneEffect : Type 0
WriteMeansOneEffect =
    (number : ℕ) (state : State) (name : List ℕ) (effect other : Effect State) → SeesSoundLibrary state → WriteMeans number state name effect
    → WriteMeans number state name other → effect ≡ other
