-- What a whole run reports, and with which status it ends.
use Rattle.std.specs.Prelude.{◌≡◌, nat_lt, ℕ, if◌then◌else◌, List, [], ◌∷◌, length, codes, MatchBool, MatchOption, Bool, false, is_some}
use Rattle.std.specs.Option.{option_map_or}
use Rattle.run_words.specs.RunWords.{words_of}
use Rattle.text_scan.specs.Lines.{lines_of}
use Rattle.outside_io.specs.Files.{Files}
use Rattle.outside_io.specs.declared.limits.TheConstants.{LONGEST_FILE}
use Rattle.session_model.specs.Effects.{with_stores}
use Rattle.session_model.specs.Progress.{IsPrefixOf, Progress, StoresSome}
use Rattle.session_model.specs.Reports.{is_told, text_of}
use Rattle.session_model.specs.Reruns.{FetchesNoneStored}
use Rattle.session_model.specs.Scripts.{ScriptActs, WholeSession, lines_in, stores_in}
use Rattle.magex_top.specs.declared.status.Status.{Status}
use Rattle.magex_top.specs.declared.status.Status.TheVariants.{Done, Told, Usage, ReadFault, WriteFault, Memory, ScriptTooLong}
use Rattle.magex_top.specs.Sessions.{RunLineMeans, first_run}
use Rattle.line_answers.specs.LineEffects.{reply}

-- A run that came to its end by itself: neither a read nor a write failed, and there was memory.
abbrev pub EndsByItself : Status → Type 0
EndsByItself Done = Unit {0}
EndsByItself Told = Unit {0}
EndsByItself Usage = Unit {0}
EndsByItself ScriptTooLong = Unit {0}
EndsByItself ReadFault = ⊥
EndsByItself WriteFault = ⊥
EndsByItself Memory = ⊥

-- A script that was read ends the run in one of these.
abbrev pub IsEndOfScript : Status → Type 0
IsEndOfScript Done = Unit {0}
IsEndOfScript Told = Unit {0}
IsEndOfScript Usage = ⊥
IsEndOfScript ScriptTooLong = ⊥
IsEndOfScript ReadFault = Unit {0}
IsEndOfScript WriteFault = Unit {0}
IsEndOfScript Memory = Unit {0}

-- the line that says which words there may be
abbrev pub usage_text : List ℕ
usage_text = codes "usage: magex [--budget N] [--quiet]"

-- the words are such as the program takes
abbrev pub are_of_form : List (List ℕ) → Bool
are_of_form words = is_some (words_of words)

-- replies are left out of the report: words that are not of the form do not ask for that
abbrev pub is_quiet : List (List ℕ) → Bool
is_quiet words = option_map_or (λ asked. asked.quiet) (words_of words) false

-- the session of words that are not of the form: it reports the line that says which there may be
abbrev pub usage_session : WholeSession Status
usage_session = record { acts = record { lines = reply usage_text ∷ []; stores = []; fetched = [] } ∷ []; status = Usage }

-- the session of a script that is too long: it does nothing
abbrev pub long_session : WholeSession Status
long_session = record { acts = []; status = ScriptTooLong }

-- The script's lines do this, and the session is told exactly where one of them tells something.
pub record IsScriptSession (budget : ℕ) (script : List ℕ) (files : Files) (session : WholeSession Status) : Type 0 where
  pub acts : ScriptActs RunLineMeans (first_run budget) files (lines_of script) session.acts
  pub status : session.status ≡ (if is_told (lines_in session.acts) then Told else Done)

-- The session of these words after the program's name, on this script, over these files: what each line does outside, in order, and how the
-- run ends. A quiet run reports its lines without the replies.
abbrev pub IsSessionOf : List (List ℕ) → List ℕ → Files → WholeSession Status → Type 0
IsSessionOf words script files session =
    MatchOption (words_of words)
    (session ≡ usage_session)
    (λ asked. MatchBool (nat_lt LONGEST_FILE (length script)) (session ≡ long_session) (IsScriptSession asked.budget script files session))

-- What a run with these words has reported and which files it leaves, however it ends: of a usage fault the beginning of the usage line; of a
-- script that is too long nothing; else all that the lines before one of its lines do, or before its end, and of that one nothing or a part.
abbrev pub RunReaches : List (List ℕ) → List ℕ → Files → Type 0 → List ℕ → Files → Type 0
RunReaches words script files Failed reported after =
    MatchOption (words_of words)
    (IsPrefixOf reported (text_of (reply usage_text ∷ [])) × (after ≡ files))
    (λ asked. MatchBool (nat_lt LONGEST_FILE (length script))
    ((reported ≡ []) × (after ≡ files))
    (Progress RunLineMeans asked.quiet Failed (first_run asked.budget) files (lines_of script) reported after))

-- A session that fetches no name that it stores is the same one over the files that are left after a first few of its stores, with any
-- bytes, or none, under the name of the next. It then leaves the files that it leaves from the start.
abbrev pub SessionsAreMadeGood : Type 0
SessionsAreMadeGood =
    (words : List (List ℕ)) (script : List ℕ) (files after : Files) (session : WholeSession Status)
    → IsSessionOf words script files session → FetchesNoneStored session.acts → StoresSome (Unit {0}) files (stores_in session.acts) after
    → IsSessionOf words script after session × (with_stores after (stores_in session.acts) ≡ with_stores files (stores_in session.acts))
