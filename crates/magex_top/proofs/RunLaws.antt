-- What a run means in each case of its words and its script.
use Rattle.magex_top.proofs.Common.{◌≡◌, ℕ, ◌∙◌, [], ◌∷◌, Some, refl, sym, ap, subst, Option, arith, is_some, Err, lines_of, Files, LONGEST_FILE}
use Rattle.magex_top.proofs.Common.{Halt, Effect, with_stores, IsCutShort, Progress, is_told, text_of, WholeSession, lines_in, stores_in, Status}
use Rattle.magex_top.proofs.Common.{Done, Told, WriteFault, RunWords, words_of, is_quiet, usage_text, IsRunSession, RunLineMeans, RunState}
use Rattle.magex_top.proofs.Common.{first_run, run_state_of, reply, status_of}
use Rattle.std.proofs.Common.{◌<◌, ◌≤◌, inl, inr, List, ◌++◌, length, None}
use Rattle.std.proofs.lemmas.Bool.Decides.{nat_tests}
use Rattle.std.proofs.lemmas.List.{append-nil}
use Rattle.std.specs.Prelude.{nat_lt, if◌then◌else◌, Bool, IsErrOf, MatchBool, MatchOption, true, false}
use Rattle.outside_io.specs.ToldBytes.{ToldBytes}
use Rattle.session_model.specs.declared.report.ReportLine.{ReportLine}
use Rattle.outside_io.specs.declared.outside.Shelf.{Ghosts as ShelfWords}
use Rattle.session_model.specs.declared.answer.Halt.TheVariants as halt
use Rattle.session_model.specs.Causes.{UnlessReadFault, UnlessWriteFault}
use Rattle.session_model.specs.Counted.{AreCounted}
use Rattle.session_model.specs.Progress.{BeginsNext, DoesFirst, IsPrefixOf}
use Rattle.session_model.specs.Reports.{report_of}
use Rattle.session_model.specs.Scripts.{Act, LinesMean, MeansInSound, ScriptActs}
use Rattle.session_model.proofs.ProgressLaws.{DoesPart-weaker, LinesMean-weaker, Progress-weaker}
use Rattle.session_model.proofs.SessionLaws.{no_stores}
use Rattle.magex_top.specs.declared.status.Status.TheVariants.{ReadFault}
use Rattle.magex_top.specs.Runs.{IsScriptSession, IsSessionOf, RunReaches, long_session, usage_session}

-- what is not too long passes no test of it
fits_test : (n : ℕ) → n ≤ LONGEST_FILE → nat_lt LONGEST_FILE n ≡ false
fits_test n fits = grind (arith, nat_tests)

long_test : (n : ℕ) → LONGEST_FILE < n → nat_lt LONGEST_FILE n ≡ true
long_test n long = grind (arith, nat_tests)

-- what is there is something
pub something : {A : Type 0} (found : Option A) (a : A) → found ≡ Some a → is_some found ≡ false → ⊥
something None a is none = let no : ⊥ = cc in no
something (Some b) a is none = let no : ⊥ = cc in no

-- and what is not there is nothing
pub nothing : {A : Type 0} (found : Option A) → found ≡ None → is_some found ≡ true → ⊥
nothing None is some = let no : ⊥ = cc in no
nothing (Some b) is some = let no : ⊥ = cc in no

-- with words that are not of the form it is a usage fault
pub usage_run : (words : List (List ℕ)) (text : List ℕ) (files : Files) → words_of words ≡ None → IsSessionOf words text files usage_session
usage_run words text files none = rw none refl

-- the session of a script that is not too long is what its lines mean
pub script_run : (words : List (List ℕ)) (asked : RunWords) (text : List ℕ) (files : Files) (session : WholeSession Status)
    → words_of words ≡ Some asked → length text ≤ LONGEST_FILE → IsScriptSession asked.budget text files session
    → IsSessionOf words text files session
script_run words asked text files session is fits means = rw (is, fits_test (length text) fits) means

-- that of a script that is too long does nothing
pub long_run : (words : List (List ℕ)) (asked : RunWords) (text : List ℕ) (files : Files) → words_of words ≡ Some asked → LONGEST_FILE < length text
    → IsSessionOf words text files long_session
long_run words asked text files is long = rw (is, long_test (length text) long) refl

pub nothing_more : (written : ToldBytes) (before : List ℕ) → written ≡ Some before → written ≡ Some (before ++ [])
nothing_more written before is = is ∙ ap (λ (xs : List ℕ). Some xs) (sym (append-nil before))

-- without lines there is no report
no_report : (quiet : Bool) → report_of quiet [] ≡ []
no_report true = refl
no_report false = refl

-- what was written of the usage line is the report
pub usage_written : (words : List (List ℕ)) (written : ToldBytes) (before : List ℕ) (lines : List ReportLine) → words_of words ≡ None
    → written ≡ Some (before ++ text_of lines) → written ≡ Some (before ++ report_of (is_quiet words) lines)
usage_written words written before lines none is = rw none is

-- what was written of a script's lines is the report that the words ask for
pub script_written : (words : List (List ℕ)) (asked : RunWords) (written : ToldBytes) (before : List ℕ) (lines : List ReportLine)
    → words_of words ≡ Some asked → written ≡ Some (before ++ report_of asked.quiet lines)
    → written ≡ Some (before ++ report_of (is_quiet words) lines)
script_written words asked written before lines asks is = rw asks is

-- nothing was written, and that is the report of no lines
pub nothing_written : (words : List (List ℕ)) (written : ToldBytes) (before : List ℕ) → written ≡ Some before
    → written ≡ Some (before ++ report_of (is_quiet words) [])
nothing_written words written before is =
    subst (λ (t : List ℕ). written ≡ Some (before ++ t)) (sym (no_report (is_quiet words))) (nothing_more written before is)

-- what a run with words that are not of the form reaches
pub usage_reached : (words : List (List ℕ)) (text : List ℕ) (files : Files) (Failed : Type 0) (reported : List ℕ) → words_of words ≡ None
    → IsPrefixOf reported (text_of (reply usage_text ∷ [])) → RunReaches words text files Failed reported files
usage_reached words text files Failed reported none prefix = rw none (prefix, refl)

-- what a run reaches in a script that is not too long
pub script_reached : (words : List (List ℕ)) (asked : RunWords) (text : List ℕ) (files : Files) (Failed : Type 0) (reported : List ℕ) (after : Files)
    → words_of words ≡ Some asked → length text ≤ LONGEST_FILE
    → Progress RunLineMeans asked.quiet Failed (first_run asked.budget) files (lines_of text) reported after
    → RunReaches words text files Failed reported after
script_reached words asked text files Failed reported after is fits reached = rw (is, fits_test (length text) fits) reached

-- no line of a script was begun
nothing_begun : (asked : RunWords) (text : List ℕ) (files : Files) (Failed : Type 0)
    → Progress RunLineMeans asked.quiet Failed (first_run asked.budget) files (lines_of text) [] files
nothing_begun asked text files Failed = record {
  past = [];
  left = lines_of text;
  split = refl;
  done = [];
  means = refl;
  front = [];
  next = elim (lines_of text)
      as (λ (left : List (List ℕ)). BeginsNext RunLineMeans asked.quiet Failed 1 (first_run asked.budget) files left [] files) [
        | [] ↦ (refl, refl)
        | line ∷ lines ↦ inl (refl, refl)
      ];
  reported = sym (append-nil (report_of asked.quiet []) ∙ no_report asked.quiet);
}

asked_nothing : (asked : RunWords) (text : List ℕ) (files : Files) (Failed : Type 0)
    → MatchBool (nat_lt LONGEST_FILE (length text)) ((◌≡◌ {A = List ℕ} [] []) × (files ≡ files))
    (Progress RunLineMeans asked.quiet Failed (first_run asked.budget) files (lines_of text) [] files)
asked_nothing asked text files Failed =
    elim (nat_lt LONGEST_FILE (length text))
    as (λ test. MatchBool test ((◌≡◌ {A = List ℕ} [] []) × (files ≡ files))
    (Progress RunLineMeans asked.quiet Failed (first_run asked.budget) files (lines_of text) [] files)) [
      | true ↦ (refl, refl)
      | false ↦ nothing_begun asked text files Failed
    ]

-- nothing is reached before the words and the script were read
pub nothing_reached : (words : List (List ℕ)) (text : List ℕ) (files : Files) (Failed : Type 0) → RunReaches words text files Failed [] files
nothing_reached words text files Failed =
    elim (words_of words) as (λ (found : Option RunWords). MatchOption found
    (IsPrefixOf [] (text_of (reply usage_text ∷ [])) × (files ≡ files))
    (λ asked. MatchBool (nat_lt LONGEST_FILE (length text)) ((◌≡◌ {A = List ℕ} [] []) × (files ≡ files))
    (Progress RunLineMeans asked.quiet Failed (first_run asked.budget) files (lines_of text) [] files))) [
      | None ↦ ((text_of (reply usage_text ∷ []), refl), refl)
      | Some asked ↦ asked_nothing asked text files Failed
    ]

-- the usage line is counted as no refusal
pub usage_counted : {F : Type 0} (shelf : ShelfWords F) (at : F) → AreCounted shelf at at ((reply usage_text ∷ []) ∷ [])
usage_counted shelf at = record { absent = inl (omega arith); too_long = inl (omega arith) }

-- what was seen of a line in a session that is sound is what it means
seen_means : (number : ℕ) (run : RunState) (files : Files) (line : List ℕ) (effect : Effect RunState)
    → MeansInSound run_state_of IsRunSession RunLineMeans number run files line effect → RunLineMeans number run files line effect
seen_means number run files line effect seen = seen.2

-- what a run from the state at the start has reached
pub reached_from_first : (asked : RunWords) (run : RunState) (text : List ℕ) (files : Files) (Failed Others : Type 0) (before : List ℕ)
    (written : ToldBytes) (left : Option Files) → run ≡ first_run asked.budget → (Failed → Others)
    → (reported : List ℕ) × (after : Files)
    × Progress (MeansInSound run_state_of IsRunSession RunLineMeans) asked.quiet Failed run files (lines_of text) reported after
    × (written ≡ Some (before ++ reported)) × (left ≡ Some after)
    → (reported : List ℕ) × (after : Files)
    × Progress RunLineMeans asked.quiet Others (first_run asked.budget) files (lines_of text) reported after
    × (written ≡ Some (before ++ reported)) × (left ≡ Some after)
reached_from_first asked run text files Failed Others before written left is weaker (reported, after, way, told, stays) =
    let means = Progress-weaker (MeansInSound run_state_of IsRunSession RunLineMeans) RunLineMeans seen_means asked.quiet Failed Others weaker run files
    (lines_of text) reported after way in (
      reported,
      after,
      subst (λ (r : RunState). Progress RunLineMeans asked.quiet Others r files (lines_of text) reported after) is means,
      told,
      stays,
    )

-- ---- beginnings of each session

-- nothing is done of the first of these
none_done : (quiet : Bool) (Failed : Type 0) (files : Files) (acts : List Act) → DoesFirst quiet Failed files acts [] files
none_done quiet Failed files [] = (refl, refl)
none_done quiet Failed files (act ∷ acts) = inl (refl, no_stores Failed files act.stores files refl)

-- nothing is the beginning of any session
pub nothing_begins : (quiet : Bool) (Failed : Type 0) (files : Files) (acts : List Act) → IsCutShort quiet Failed files acts [] files
nothing_begins quiet Failed files acts = record {
  past = [];
  left = acts;
  split = refl;
  front = [];
  next = none_done quiet Failed files acts;
  reported = sym (append-nil (report_of quiet []) ∙ no_report quiet);
}

-- a beginning of the usage line is one of its session
pub usage_begins : (words : List (List ℕ)) (text : List ℕ) (files : Files) (Failed : Type 0) (reported : List ℕ) → words_of words ≡ None
    → IsPrefixOf reported (text_of (reply usage_text ∷ [])) → (session : WholeSession Status) → IsSessionOf words text files session
    → IsCutShort (is_quiet words) Failed files session.acts reported files
usage_begins words text files Failed reported none prefix session is =
    let usage : session ≡ usage_session = rw none at is in
    let quiet : is_quiet words ≡ false = rw none refl in
    let cut : IsCutShort false Failed files usage_session.acts reported files = record {
      past = [];
      left = usage_session.acts;
      split = refl;
      front = reported;
      next = inr (prefix, refl);
      reported = refl;
    } in
    subst (λ (q : Bool). IsCutShort q Failed files session.acts reported files) (sym quiet)
    (subst (λ (one : WholeSession Status). IsCutShort false Failed files one.acts reported files) (sym usage) cut)

-- what is the first part of an act with fewer failures is so with more
first_weaker : (quiet : Bool) (Failed Others : Type 0) → (Failed → Others) → (files : Files) (acts : List Act) (front : List ℕ) (after : Files)
    → DoesFirst quiet Failed files acts front after → DoesFirst quiet Others files acts front after
first_weaker quiet Failed Others weaker files [] front after done = done
first_weaker quiet Failed Others weaker files (act ∷ acts) front after done =
    DoesPart-weaker quiet Failed Others weaker files act.lines act.stores front after done

-- what is left of a script's lines, from the state at the start, begins each of its sessions
pub begins_from_first : (asked : RunWords) (run : RunState) (text : List ℕ) (files : Files) (Failed Others : Type 0) (before : List ℕ)
    (written : ToldBytes) (left : Option Files) → run ≡ first_run asked.budget → (Failed → Others)
    → (reported : List ℕ) × (after : Files) × (written ≡ Some (before ++ reported)) × (left ≡ Some after)
    × ((acts : List Act) → ScriptActs RunLineMeans run files (lines_of text) acts → IsCutShort asked.quiet Failed files acts reported after)
    → (reported : List ℕ) × (after : Files) × (written ≡ Some (before ++ reported)) × (left ≡ Some after)
    × ((session : WholeSession Status) → IsScriptSession asked.budget text files session
    → IsCutShort asked.quiet Others files session.acts reported after)
begins_from_first asked run text files Failed Others before written left is weaker (reported, after, told, stays, begins) = (
  reported,
  after,
  told,
  stays,
  λ session means.
      let cut = begins session.acts (subst (λ (r : RunState). ScriptActs RunLineMeans r files (lines_of text) session.acts) (sym is) means.acts) in
      record {
        past = cut.past;
        left = cut.left;
        split = cut.split;
        front = cut.front;
        next = first_weaker asked.quiet Failed Others weaker (with_stores files (stores_in cut.past)) cut.left cut.front after cut.next;
        reported = cut.reported;
      },
)

-- a session of a script that is not too long is one of its lines
pub script_begins : (words : List (List ℕ)) (asked : RunWords) (text : List ℕ) (files : Files) (Failed : Type 0) (reported : List ℕ) (after : Files)
    → words_of words ≡ Some asked → length text ≤ LONGEST_FILE
    → ((session : WholeSession Status) → IsScriptSession asked.budget text files session
    → IsCutShort asked.quiet Failed files session.acts reported after)
    → (session : WholeSession Status) → IsSessionOf words text files session → IsCutShort (is_quiet words) Failed files session.acts reported after
script_begins words asked text files Failed reported after is fits begins session of_words =
    let of_script : IsScriptSession asked.budget text files session = rw (is, fits_test (length text) fits) at of_words in
    let quiet : is_quiet words ≡ asked.quiet = rw is refl in
    subst (λ (q : Bool). IsCutShort q Failed files session.acts reported after) (sym quiet) (begins session of_script)

-- what a script's lines were seen to do from the state at the start is its session
pub session_from_first : (asked : RunWords) (run : RunState) (text : List ℕ) (files : Files) (acts : List Act) (status : Status)
    → run ≡ first_run asked.budget
    → ScriptActs (MeansInSound run_state_of IsRunSession RunLineMeans) run files (lines_of text) acts
    → status ≡ (if is_told (lines_in acts) then Told else Done)
    → IsScriptSession asked.budget text files (record { acts = acts; status = status })
session_from_first asked run text files acts status is (effects, seen, are) ends =
    let means = LinesMean-weaker (MeansInSound run_state_of IsRunSession RunLineMeans) RunLineMeans seen_means 1 run files (lines_of text) effects seen in
    record {
      acts = (effects, subst (λ (r : RunState). LinesMean RunLineMeans 1 r files (lines_of text) effects) is means, are);
      status = ends;
    }

-- what stays unless a write failed stays where the status is none of a write that failed
pub calm_write : (T : Type 0) (h : Halt) (status : Status) (P : Type 0) → UnlessWriteFault {T = T} (Err h) P → status ≡ status_of h
    → (status ≡ WriteFault → ⊥) → P
calm_write T halt.ReadFault status P calm is other = calm
calm_write T halt.WriteFault status P calm is other = absurd (other is)
calm_write T halt.Memory status P calm is other = calm

-- and so of a read
pub calm_read : (T : Type 0) (h : Halt) (status : Status) (P : Type 0) → UnlessReadFault {T = T} (Err h) P → status ≡ status_of h
    → (status ≡ ReadFault → ⊥) → P
calm_read T halt.ReadFault status P calm is other = absurd (other is)
calm_read T halt.WriteFault status P calm is other = calm
calm_read T halt.Memory status P calm is other = calm

-- what a read that failed comes from is where the status tells of one
pub read_told : (T : Type 0) (h : Halt) (status : Status) (P : Type 0) → (IsErrOf {T = T} (Err h) halt.ReadFault → P) → status ≡ status_of h
    → status ≡ ReadFault → P
read_told T halt.ReadFault status P comes is told = comes refl
read_told T halt.WriteFault status P comes is told = let no : ⊥ = cc in absurd no
read_told T halt.Memory status P comes is told = let no : ⊥ = cc in absurd no

-- and so of a write
pub write_told : (T : Type 0) (h : Halt) (status : Status) (P : Type 0) → (IsErrOf {T = T} (Err h) halt.WriteFault → P) → status ≡ status_of h
    → status ≡ WriteFault → P
write_told T halt.ReadFault status P comes is told = let no : ⊥ = cc in absurd no
write_told T halt.WriteFault status P comes is told = comes refl
write_told T halt.Memory status P comes is told = let no : ⊥ = cc in absurd no
