-- Each line of a script has one effect in a sound run.
use Rattle.magex_top.proofs.Common.{◌≡◌, ℕ, [], ap, sym, ◌∙◌, subst, Ok, Err, Result, Files, Effect, Command, LineFault, command_of, State}
use Rattle.magex_top.proofs.Common.{CommandMeans, IsRunSession, ReadLineMeans, RunLineMeans, RunState, run_state_of, session_effect}
use Rattle.std.proofs.Common.{ℤ}
use Rattle.std.specs.Prelude.{None, Some, Option}
use Rattle.session_model.specs.Scripts.{HasOneEffect, IsSoundState, MeansInSound}
use Rattle.script_lines.specs.declared.commands.Command.TheVariants as command
use Rattle.line_answers.specs.LineEffects.{FreeEffect, LeavesState}
use Rattle.library_commands.specs.LookCommands.declared.looks.Look.TheVariants as look
use Rattle.extract_commands.specs.CircuitCommands.declared.circuits.CircuitFile.TheVariants as file
use Rattle.extract_commands.specs.Uniqueness.Ext2simEffects.{Ext2simMeansOneEffect}
use Rattle.extract_commands.specs.Uniqueness.Simulations.{SimrunMeansOneEffect}
use Rattle.extract_commands.specs.declared.command_vectors.VectorQuestion.TheVariants as question
use Rattle.extract_commands.specs.OneEffects.{CircuitMeansOneEffect, ExtractMeansOneEffect, GenerateMeansOneEffect, VectorsMeansOneEffect}
use Rattle.library_commands.specs.CifCommands.OneEffects.{CifstatMeansOneEffect}
use Rattle.library_commands.specs.OneEffects.{CheckMeansOneEffect, EditMeansOneEffect, LoadMeansOneEffect, LookMeansOneEffect, ReturnMeansOneEffect}
use Rattle.library_commands.specs.OneEffects.{TechMeansOneEffect, WriteMeansOneEffect}
use Rattle.library_commands.specs.declared.command_returns.Way.TheVariants as way
use Rattle.library_commands.specs.Workspace.KeptSessions.{SeesSoundLibrary}
use Rattle.library_commands.proofs.SessionLaws.{library_is_seen}

-- the effects of commands that leave the state are as those of the commands alone
one_free : (state : State) (Means : FreeEffect → Type 0) → ((effect other : FreeEffect) → Means effect → Means other → effect ≡ other)
    → (effect other : Effect State) → LeavesState state Means effect → LeavesState state Means other → effect ≡ other
one_free state Means one effect other p q =
    let free : Effect State → FreeEffect = λ e. record { state = tt; lines = e.lines; stores = e.stores; fetched = e.fetched } in
    let with_state : State → FreeEffect → Effect State = λ at e. record { state = at; lines = e.lines; stores = e.stores; fetched = e.fetched } in
    ap (λ (at : State). with_state at (free effect)) (p.0 ∙ sym q.0) ∙ ap (with_state other.state) (one (free effect) (free other) p.1 q.1)

-- What each kind of command is held to.
pub record Laws : Type 0 where
  pub tech : TechMeansOneEffect
  pub load : LoadMeansOneEffect
  pub edits : EditMeansOneEffect
  pub returns : ReturnMeansOneEffect
  pub looks : LookMeansOneEffect
  pub checks : CheckMeansOneEffect
  pub writes : WriteMeansOneEffect
  pub cifstat : CifstatMeansOneEffect
  pub extract : ExtractMeansOneEffect
  pub circuit : CircuitMeansOneEffect
  pub vectors : VectorsMeansOneEffect
  pub generate : GenerateMeansOneEffect
  pub ext2sim : Ext2simMeansOneEffect
  pub simrun : SimrunMeansOneEffect

module _ (laws : Laws) (budget number : ℕ) (state : State) (files : Files) (sees : SeesSoundLibrary state) (effect other : Effect State)
    (leaves : SeesSoundLibrary effect.state) where
  -- each command
  one_command : (asked : Command) → CommandMeans budget number state files asked effect → CommandMeans budget number state files asked other
      → effect ≡ other
  one_command (command.Tech name) p q = laws.tech number state files name effect other p q
  one_command (command.Load cell) p q = laws.load number state files cell effect other p q
  one_command (command.New cell) p q = laws.edits number state (command.New cell) effect other p q
  one_command (command.Edit cell) p q = laws.edits number state (command.Edit cell) effect other p q
  one_command (command.Paint layer area) p q = laws.edits number state (command.Paint layer area) effect other p q
  one_command (command.Erase layer area) p q = laws.edits number state (command.Erase layer area) effect other p q
  one_command (command.Place cell id six) p q = laws.edits number state (command.Place cell id six) effect other p q
  one_command (command.Array id six) p q = laws.edits number state (command.Array id six) effect other p q
  one_command (command.Move id dx dy) p q = laws.edits number state (command.Move id dx dy) effect other p q
  one_command (command.Delete id) p q = laws.edits number state (command.Delete id) effect other p q
  one_command (command.Label layer area position text) p q =
      laws.edits number state (command.Label layer area position text) effect other p q
  one_command (command.Unlabel text) p q = laws.edits number state (command.Unlabel text) effect other p q
  one_command command.Undo p q = laws.returns way.Undo number state effect other p q
  one_command command.Redo p q = laws.returns way.Redo number state effect other p q
  one_command (command.Save cell) p q = laws.looks look.Save number state cell effect other sees p q
  one_command (command.Squares cell) p q = laws.looks look.Squares number state cell effect other sees p q
  one_command (command.Drc cell name) p q = laws.checks number state files cell name effect other p q
  one_command (command.Cif cell) p q = laws.writes number state cell effect other sees p q
  one_command (command.Cifstat name) p q = one_free state _ (laws.cifstat number files name) effect other p q
  one_command (command.Nodes cell) p q = laws.looks look.Nodes number state cell effect other sees p q
  one_command (command.Extract cell) p q = laws.extract number state cell effect other sees p q
  one_command (command.Flat cell) p q = laws.circuit file.Flat number state cell effect other sees p q
  one_command (command.Sim cell) p q = laws.circuit file.Sim number state cell effect other sees p q
  one_command (command.Ext2sim cell) p q = one_free state _ (laws.ext2sim number files cell) effect other p q
  one_command (command.Vectors cell name) p q = laws.vectors question.Replies budget number state files cell name effect other sees p q
  one_command (command.Grade cell name) p q = laws.vectors question.Faults budget number state files cell name effect other sees p q
  one_command (command.Simrun cell name) p q = one_free state _ (laws.simrun budget number files cell name) effect other p q
  one_command (command.Generate count) p q = laws.generate budget number state count effect other leaves p q

  -- each line that was read
  one_read : (read : Result (Option Command) LineFault) → ReadLineMeans budget number state files read effect
      → ReadLineMeans budget number state files read other → effect ≡ other
  one_read (Ok None) p q = p ∙ sym q
  one_read (Ok (Some asked)) p q = one_command asked p q
  one_read (Err fault) p q = p ∙ sym q

-- a sound run sees a lawful library
run_sees_lawful : (run : RunState) → IsSoundState run_state_of IsRunSession run → SeesSoundLibrary run.session
run_sees_lawful run (session, sound, is) =
    subst (λ (at : RunState). SeesSoundLibrary at.session) is (library_is_seen session.session sound.1)

-- each line of a run
pub one_line : Laws → HasOneEffect (MeansInSound run_state_of IsRunSession RunLineMeans) RunLineMeans
one_line laws number run files line effect other (before, after, seen) means =
    let of_session : ℕ → Effect State → Effect RunState = λ budget e. record
    { state = record { session = e.state; budget = budget }; lines = e.lines; stores = e.stores; fetched = e.fetched } in
    let same = one_read laws run.budget number run.session files (run_sees_lawful run before) (session_effect effect) (session_effect other)
    (run_sees_lawful effect.state after) (command_of line) seen.1 means.1 in
    ap (λ (budget : ℕ). of_session budget (session_effect effect)) (seen.0 ∙ sym means.0) ∙ ap (of_session other.state.budget) same
