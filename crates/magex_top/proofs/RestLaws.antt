-- What a line does rests on the files alone that it fetches, and so a run that was cut short is made good by another.
use Rattle.magex_top.proofs.Common.{◌≡◌, ◌∙◌, ℕ, [], Option, Some, refl, ap, subst, Result, Ok, Err, lines_of, Files, LONGEST_FILE, RunWords}
use Rattle.magex_top.proofs.Common.{words_of, Effect, with_stores, WholeSession, stores_in, Command, LineFault, command_of, State, Status}
use Rattle.magex_top.proofs.Common.{CommandMeans, ReadLineMeans, RunLineMeans, first_run, session_effect}
use Rattle.std.proofs.Common.{Bool, true, false, List, None}
use Rattle.std.specs.Prelude.{nat_lt, length, MatchBool, MatchOption}
use Rattle.session_model.specs.declared.answer.Store.{Store}
use Rattle.session_model.specs.Fetches.{AgreeOn}
use Rattle.session_model.specs.Progress.{StoresSome}
use Rattle.session_model.specs.Reruns.{FetchesNoneStored, RestsOnFetched}
use Rattle.session_model.proofs.RerunLaws.{made_good}
use Rattle.script_lines.specs.declared.commands.Command.TheVariants.{Tech, Load, New, Edit, Paint, Erase, Place, Array, Move, Delete, Label, Unlabel}
use Rattle.script_lines.specs.declared.commands.Command.TheVariants.{Undo, Redo, Save, Squares, Drc, Cif, Cifstat, Nodes, Extract, Flat, Sim, Ext2sim, Vectors, Grade, Simrun, Generate}
use Rattle.extract_commands.proofs.CircuitCommands.RestLaws.{ext2sim_rests}
use Rattle.extract_commands.proofs.NetworkCommands.RestLaws.{simrun_rests}
use Rattle.extract_commands.specs.declared.command_vectors.VectorQuestion.TheVariants as question
use Rattle.extract_commands.proofs.RestLaws.{vectors_rest}
use Rattle.library_commands.proofs.CifCommands.RestLaws.{cifstat_rests}
use Rattle.library_commands.proofs.OneChecks.{check_rests}
use Rattle.library_commands.proofs.RestLaws.{load_rests, tech_rests}
use Rattle.magex_top.specs.Runs.{IsScriptSession, SessionsAreMadeGood, long_session, usage_session}

-- most commands read no file
command_rests : (budget number : ℕ) (state : State) (files others : Files) (command : Command) (effect : Effect State)
    → CommandMeans budget number state files command effect → AgreeOn effect.fetched files others
    → CommandMeans budget number state others command effect
command_rests budget number state files others (Tech name) effect means agree = tech_rests number state files others name effect means agree
command_rests budget number state files others (Load cell) effect means agree = load_rests number state files others cell effect means agree
command_rests budget number state files others (New cell) effect means agree = means
command_rests budget number state files others (Edit cell) effect means agree = means
command_rests budget number state files others (Paint layer area) effect means agree = means
command_rests budget number state files others (Erase layer area) effect means agree = means
command_rests budget number state files others (Place cell id six) effect means agree = means
command_rests budget number state files others (Array id six) effect means agree = means
command_rests budget number state files others (Move id dx dy) effect means agree = means
command_rests budget number state files others (Delete id) effect means agree = means
command_rests budget number state files others (Label layer area position text) effect means agree = means
command_rests budget number state files others (Unlabel text) effect means agree = means
command_rests budget number state files others Undo effect means agree = means
command_rests budget number state files others Redo effect means agree = means
command_rests budget number state files others (Save cell) effect means agree = means
command_rests budget number state files others (Squares cell) effect means agree = means
command_rests budget number state files others (Drc cell file) effect means agree = check_rests number state files others cell file effect means agree
command_rests budget number state files others (Cif cell) effect means agree = means
command_rests budget number state files others (Cifstat file) effect (stays, means) agree = (
  stays,
  cifstat_rests number files others file (record { state = tt; lines = effect.lines; stores = effect.stores; fetched = effect.fetched }) means agree,
)
command_rests budget number state files others (Nodes cell) effect means agree = means
command_rests budget number state files others (Extract cell) effect means agree = means
command_rests budget number state files others (Flat cell) effect means agree = means
command_rests budget number state files others (Sim cell) effect means agree = means
command_rests budget number state files others (Ext2sim cell) effect (stays, means) agree =
    (stays, ext2sim_rests number files others cell (record { state = tt; lines = effect.lines; stores = effect.stores; fetched = effect.fetched }) means agree)
command_rests budget number state files others (Vectors cell file) effect means agree =
    vectors_rest question.Replies budget number files others state cell file effect means agree
command_rests budget number state files others (Grade cell file) effect means agree =
    vectors_rest question.Faults budget number files others state cell file effect means agree
command_rests budget number state files others (Simrun cell file) effect (stays, means) agree = (
  stays,
  simrun_rests budget number files others cell file (record { state = tt; lines = effect.lines; stores = effect.stores; fetched = effect.fetched })
      means agree,
)
command_rests budget number state files others (Generate count) effect means agree = means

read_line_rests : (budget number : ℕ) (state : State) (files others : Files) (read : Result (Option Command) LineFault) (effect : Effect State)
    → ReadLineMeans budget number state files read effect → AgreeOn effect.fetched files others
    → ReadLineMeans budget number state others read effect
read_line_rests budget number state files others (Ok None) effect means agree = means
read_line_rests budget number state files others (Ok (Some command)) effect means agree =
    command_rests budget number state files others command effect means agree
read_line_rests budget number state files others (Err fault) effect means agree = means

-- what a line of a run does rests on the files alone that it fetches
pub run_lines_rest : RestsOnFetched RunLineMeans
run_lines_rest number run files others line effect (kept, means) agree =
    (kept, read_line_rests run.budget number run.session files others (command_of line) (session_effect effect) means agree)

-- ---- a whole session

-- where nothing is stored the files are the same
nothing_stored : (session done : WholeSession Status) (files after : Files) → session ≡ done → (stores_in done.acts ≡ [])
    → StoresSome (Unit {0}) files (stores_in session.acts) after
    → with_stores after (stores_in session.acts) ≡ with_stores files (stores_in session.acts)
nothing_stored session done files after is none some =
    let none_here : stores_in session.acts ≡ [] = ap (λ (s : WholeSession Status). stores_in s.acts) is ∙ none in
    let same : after ≡ files = subst (λ (stores : List Store). StoresSome (Unit {0}) files stores after) none_here some in
    ap (λ (f : Files). with_stores f (stores_in session.acts)) same

-- a script that is read
script_again : (long : Bool) (asked : RunWords) (script : List ℕ) (files after : Files) (session : WholeSession Status)
    → MatchBool long (session ≡ long_session) (IsScriptSession asked.budget script files session) → FetchesNoneStored session.acts
    → StoresSome (Unit {0}) files (stores_in session.acts) after
    → MatchBool long (session ≡ long_session) (IsScriptSession asked.budget script after session)
    × (with_stores after (stores_in session.acts) ≡ with_stores files (stores_in session.acts))
script_again true asked script files after session is none some = (is, nothing_stored session long_session files after is refl some)
script_again false asked script files after session means none some =
    let (acts, same) =
    made_good RunLineMeans run_lines_rest (first_run asked.budget) files after (lines_of script) session.acts means.acts none some in
    (record { acts = acts; status = means.status }, same)

words_again : (found : Option RunWords) (script : List ℕ) (files after : Files) (session : WholeSession Status)
    → MatchOption found (session ≡ usage_session)
    (λ asked. MatchBool (nat_lt LONGEST_FILE (length script)) (session ≡ long_session) (IsScriptSession asked.budget script files session))
    → FetchesNoneStored session.acts → StoresSome (Unit {0}) files (stores_in session.acts) after
    → MatchOption found (session ≡ usage_session)
    (λ asked. MatchBool (nat_lt LONGEST_FILE (length script)) (session ≡ long_session) (IsScriptSession asked.budget script after session))
    × (with_stores after (stores_in session.acts) ≡ with_stores files (stores_in session.acts))
words_again None script files after session is none some = (is, nothing_stored session usage_session files after is refl some)
words_again (Some asked) script files after session means none some =
    script_again (nat_lt LONGEST_FILE (length script)) asked script files after session means none some

pub made_good_again : SessionsAreMadeGood
made_good_again words script files after session means none some = words_again (words_of words) script files after session means none some
