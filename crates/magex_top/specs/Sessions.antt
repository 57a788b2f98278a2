-- What a line of a script does.
use Rattle.std.specs.Prelude.{◌≡◌, ℕ, List, [], Option, Some, None, Result, Ok, Err}
use Rattle.outside_io.specs.Files.{Files}
use Rattle.session_model.specs.Effects.{Effect}
use Rattle.script_lines.specs.declared.commands.Command.{Command}
use Rattle.script_lines.specs.declared.commands.Command.TheVariants.{Tech, Load, New, Edit, Paint, Erase, Place, Array, Move, Delete, Label, Unlabel}
use Rattle.script_lines.specs.declared.commands.Command.TheVariants.{Undo, Redo, Save, Squares, Drc, Cif, Cifstat, Nodes, Extract, Flat, Sim, Ext2sim, Vectors, Grade, Simrun, Generate}
use Rattle.script_lines.specs.declared.faults.LineFault.{LineFault}
use Rattle.script_lines.specs.Commands.{command_of}
use Rattle.line_answers.specs.LineEffects.{LeavesState, accepted, refused}
use Rattle.extract_commands.specs.CircuitCommands.declared.circuits.CircuitFile.TheVariants as file
use Rattle.extract_commands.specs.CircuitCommands.CommandExt2sim.{Ext2simMeans}
use Rattle.extract_commands.specs.NetworkCommands.CommandSimrun.{SimrunMeans}
use Rattle.library_commands.specs.LookCommands.declared.looks.Look.TheVariants as look
use Rattle.library_commands.specs.Workspace.KeptSessions.{IsSession, KeepsSoundLibrary, state_of}
use Rattle.library_commands.specs.Workspace.States.{State, first_state}
use Rattle.extract_commands.specs.CommandCircuits.{CircuitMeans}
use Rattle.extract_commands.specs.CommandExtract.{ExtractMeans}
use Rattle.extract_commands.specs.CommandGenerate.{GenerateMeans}
use Rattle.extract_commands.specs.CommandVectors.{VectorsMeans}
use Rattle.extract_commands.specs.declared.command_vectors.VectorQuestion.TheVariants as question
use Rattle.magex_top.specs.declared.session.RunSession.{RunSession}
use Rattle.library_commands.specs.CifCommands.CommandCifstat.{CifstatMeans}
use Rattle.library_commands.specs.CommandChecks.{CheckMeans}
use Rattle.library_commands.specs.CommandCif.{WriteMeans}
use Rattle.library_commands.specs.CommandEdits.{EditMeans}
use Rattle.library_commands.specs.CommandLoad.{LoadMeans}
use Rattle.library_commands.specs.CommandLooks.{LookMeans}
use Rattle.library_commands.specs.CommandReturns.{ReturnMeans}
use Rattle.library_commands.specs.declared.command_returns.Way.TheVariants as way
use Rattle.library_commands.specs.CommandTech.{TechMeans}
use Rattle.magex_top.specs.Refusals.{line_refusal}

-- What a command does. The budget is the most steps of a phase.
abbrev pub CommandMeans : ℕ → ℕ → State → Files → Command → Effect State → Type 0
CommandMeans budget number state files (Tech name) effect = TechMeans number state files name effect
CommandMeans budget number state files (Load cell) effect = LoadMeans number state files cell effect
CommandMeans budget number state files (New cell) effect = EditMeans number state (New cell) effect
CommandMeans budget number state files (Edit cell) effect = EditMeans number state (Edit cell) effect
CommandMeans budget number state files (Paint layer area) effect = EditMeans number state (Paint layer area) effect
CommandMeans budget number state files (Erase layer area) effect = EditMeans number state (Erase layer area) effect
CommandMeans budget number state files (Place cell id six) effect = EditMeans number state (Place cell id six) effect
CommandMeans budget number state files (Array id six) effect = EditMeans number state (Array id six) effect
CommandMeans budget number state files (Move id dx dy) effect = EditMeans number state (Move id dx dy) effect
CommandMeans budget number state files (Delete id) effect = EditMeans number state (Delete id) effect
CommandMeans budget number state files (Label layer area position text) effect = EditMeans number state (Label layer area position text) effect
CommandMeans budget number state files (Unlabel text) effect = EditMeans number state (Unlabel text) effect
CommandMeans budget number state files Undo effect = ReturnMeans way.Undo number state effect
CommandMeans budget number state files Redo effect = ReturnMeans way.Redo number state effect
CommandMeans budget number state files (Save cell) effect = LookMeans look.Save number state cell effect
CommandMeans budget number state files (Squares cell) effect = LookMeans look.Squares number state cell effect
CommandMeans budget number state files (Drc cell file) effect = CheckMeans number state files cell file effect
CommandMeans budget number state files (Cif cell) effect = WriteMeans number state cell effect
CommandMeans budget number state files (Cifstat file) effect = LeavesState state (CifstatMeans number files file) effect
CommandMeans budget number state files (Nodes cell) effect = LookMeans look.Nodes number state cell effect
CommandMeans budget number state files (Extract cell) effect = ExtractMeans number state cell effect
CommandMeans budget number state files (Flat cell) effect = CircuitMeans file.Flat number state cell effect
CommandMeans budget number state files (Sim cell) effect = CircuitMeans file.Sim number state cell effect
CommandMeans budget number state files (Ext2sim cell) effect = LeavesState state (Ext2simMeans number files cell) effect
CommandMeans budget number state files (Vectors cell file) effect = VectorsMeans question.Replies budget number state files cell file effect
CommandMeans budget number state files (Grade cell file) effect = VectorsMeans question.Faults budget number state files cell file effect
CommandMeans budget number state files (Simrun cell file) effect = LeavesState state (SimrunMeans budget number files cell file) effect
CommandMeans budget number state files (Generate count) effect = GenerateMeans budget number state count effect

-- A line that is no command is refused, and one that asks for nothing does nothing.
abbrev pub ReadLineMeans : ℕ → ℕ → State → Files → Result (Option Command) LineFault → Effect State → Type 0
ReadLineMeans budget number state files (Ok None) effect = effect ≡ accepted state [] []
ReadLineMeans budget number state files (Ok (Some command)) effect = CommandMeans budget number state files command effect
ReadLineMeans budget number state files (Err fault) effect = effect ≡ refused number state (line_refusal fault) []

-- what the script's line of this number does in the state and the files
abbrev pub LineMeans : ℕ → ℕ → State → Files → List ℕ → Effect State → Type 0
LineMeans budget number state files line effect = ReadLineMeans budget number state files (command_of line) effect

-- The state of a run between two lines: that of its session, and the most steps of a phase, which no line changes.
pub record RunState : Type 0 where
  pub session : State
  pub budget : ℕ

abbrev pub session_effect : Effect RunState → Effect State
session_effect effect = record { state = effect.state.session; lines = effect.lines; stores = effect.stores; fetched = effect.fetched }

-- what the script's line of this number does in a run
abbrev pub RunLineMeans : ℕ → RunState → Files → List ℕ → Effect RunState → Type 0
RunLineMeans number run files line effect =
    (effect.state.budget ≡ run.budget) × LineMeans run.budget number run.session files line (session_effect effect)

abbrev pub first_run : ℕ → RunState
first_run budget = record { session = first_state; budget = budget }

-- the state of a run, as the program keeps it
abbrev pub run_state_of : RunSession → RunState
run_state_of run = record { session = state_of run.session; budget = run.budget }

-- The session is sound, and so is its library.
abbrev pub IsRunSession : RunSession → Type 0
IsRunSession run = IsSession run.session × KeepsSoundLibrary run.session
