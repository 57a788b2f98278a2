-- A written text is cut into the commands that it was made of, and read one command after another.
use Rattle.cif_forms.proofs.Common.{◌≡◌, ℕ, ◌+◌, ◌<◌, ◌==◌, ◌||◌, Bool, true, false, Result, Ok, Err, List, [], ◌∷◌, ◌++◌, length, refl, sym, ap}
use Rattle.cif_forms.proofs.Common.{◌∙◌, arith, append_assoc, slice_split, All, and_from, and_parts, list_all-append, At, first_faulty_part_or}
use Rattle.cif_forms.proofs.Common.{is_mark, is_semicolon, commands_from, line_ends, line_ends_before, line_of_command, step_on, AreUnmarked}
use Rattle.cif_forms.proofs.Common.{is_unmarked, is_unmarked_text}
use Rattle.std.specs.Prelude.{codes}
use Rattle.std.proofs.lemmas.Bool.{not-true, or_parts}
use Rattle.std.proofs.lemmas.List.Elements.{All-cons, All-nil}
use Rattle.std.proofs.lemmas.List.Splits.{slice_split_at, slice_split_none}
use Rattle.text_form.specs.Folds.{unless_faulty}
use Rattle.text_form.specs.SaidLines.{and_then}
use Rattle.cif_forms.specs.Comments.{without_comments}
use Rattle.cif_forms.specs.Cutting.{commands_of}
use Rattle.cif_forms.specs.Written.{LooksPastLineFeeds, first_fault_of}
use Rattle.cif_forms.specs.Written.{without_line, with_semicolon, written_parts, written_text}
use Rattle.cif_forms.proofs.CuttingLaws.{commands_from-cons}
use Rattle.cif_forms.proofs.TextLaws.{HasNoComment, without_comments-plain}

-- ---- unmarked bytes

mark_parts : (byte : ℕ) → is_unmarked byte ≡ true → (is_semicolon byte ≡ false) × ((byte == 40) ≡ false)
mark_parts byte unmarked =
    let parts = or_parts ((byte == 40) || (byte == 41)) (byte == 59) (not-true (is_mark byte) unmarked) in
    (parts.1, (or_parts (byte == 40) (byte == 41) parts.0).0)

unmarked-ends_none : (bytes : List ℕ) → is_unmarked_text bytes ≡ true → All (λ byte. is_semicolon byte ≡ false) bytes
unmarked-ends_none [] unmarked = All-nil (λ byte. is_semicolon byte ≡ false)
unmarked-ends_none (byte ∷ bytes) unmarked =
    let parts = and_parts (is_unmarked byte) (is_unmarked_text bytes) unmarked in
    All-cons (λ b. is_semicolon b ≡ false) byte bytes (mark_parts byte parts.0).0 (unmarked-ends_none bytes parts.1)

unmarked-no_comment : (bytes : List ℕ) → is_unmarked_text bytes ≡ true → HasNoComment bytes
unmarked-no_comment [] unmarked = tt
unmarked-no_comment (byte ∷ bytes) unmarked =
    let parts = and_parts (is_unmarked byte) (is_unmarked_text bytes) unmarked in
    ((mark_parts byte parts.0).1, unmarked-no_comment bytes parts.1)

-- unmarked bytes and more unmarked bytes
pub unmarked-append : (bytes more : List ℕ) → is_unmarked_text bytes ≡ true → is_unmarked_text more ≡ true → is_unmarked_text (bytes ++ more) ≡ true
unmarked-append bytes more one other = list_all-append is_unmarked bytes more ∙ and_from (is_unmarked_text bytes) (is_unmarked_text more) one other

-- unmarked commands and more unmarked commands
pub AreUnmarked-append : (commands more : List (List ℕ)) → AreUnmarked commands → AreUnmarked more → AreUnmarked (commands ++ more)
AreUnmarked-append [] more one other = other
AreUnmarked-append (command ∷ commands) more one other = (one.0, AreUnmarked-append commands more one.1 other)

-- ---- comments

no_comment-append : (bytes more : List ℕ) → HasNoComment bytes → HasNoComment more → HasNoComment (bytes ++ more)
no_comment-append [] more one other = other
no_comment-append (byte ∷ bytes) more one other = (one.0, no_comment-append bytes more one.1 other)

written-no_comment : (commands : List (List ℕ)) → AreUnmarked commands → HasNoComment (written_text commands)
written-no_comment [] unmarked = (refl, (refl, tt))
written-no_comment (command ∷ commands) unmarked =
    no_comment-append (with_semicolon command) (10 ∷ written_text commands)
    (no_comment-append command (59 ∷ []) (unmarked-no_comment command unmarked.0) (refl, tt))
    (refl, written-no_comment commands unmarked.1)

-- a written text has no comments
pub without_comments-written : (commands : List (List ℕ)) → AreUnmarked commands → without_comments (written_text commands) ≡ written_text commands
without_comments-written commands unmarked = without_comments-plain (written_text commands) (written-no_comment commands unmarked)

-- ---- cutting

split-written : (front : List ℕ) (commands : List (List ℕ)) → is_unmarked_text front ≡ true → AreUnmarked commands
    → slice_split is_semicolon (front ++ written_text commands) ≡ written_parts front commands
split-written front [] one unmarked =
    let last = codes "E" ++ 10 ∷ [] in
    slice_split_none is_semicolon (front ++ last) (unmarked-ends_none (front ++ last) (unmarked-append front last one refl))
split-written front (command ∷ commands) one unmarked =
    let rest = written_text commands in
    ap (λ text. slice_split is_semicolon (front ++ text)) (append_assoc command (59 ∷ []) (10 ∷ rest))
    ∙ (ap (slice_split is_semicolon) (sym (append_assoc front command (59 ∷ 10 ∷ rest)))
    ∙ (slice_split_at is_semicolon (front ++ command) 59 (10 ∷ rest) (unmarked-ends_none (front ++ command) (unmarked-append front command one unmarked.0)) refl
    ∙ ap (λ parts. (front ++ command) ∷ parts) (split-written (10 ∷ []) commands refl unmarked.1)))

-- The commands of a written text are those that it was made of, each with its semicolon, and behind them `E`.
pub commands_of-written : (commands : List (List ℕ)) → AreUnmarked commands
    → commands_of (written_text commands) ≡ commands_from 1 (written_parts [] commands)
unfolding commands_of
commands_of-written commands unmarked =
    ap (λ text. commands_from 1 (slice_split is_semicolon text)) (without_comments-written commands unmarked)
    ∙ ap (commands_from 1) (split-written [] commands refl unmarked)

-- ---- reading

written_parts-some : (front : List ℕ) (commands : List (List ℕ)) → 0 < length (written_parts front commands)
written_parts-some front [] = omega arith
written_parts-some front (command ∷ commands) = omega arith

last-read : {S F : Type 0} (line : ℕ) (found : Result S F) → without_line (unless_faulty line found (λ next. Ok next)) ≡ found
last-read line (Ok next) = refl
last-read line (Err fault) = refl

first-read : {S F : Type 0} (line : ℕ) (found : Result S F) (rest : S → Result S (At F)) (more : S → Result S F) (end : S → Result S F)
    → ((next : S) → without_line (rest next) ≡ and_then (more next) end)
    → without_line (unless_faulty line found rest) ≡ and_then (and_then found more) end
first-read line (Ok next) rest more end same = same next
first-read line (Err fault) rest more end same = refl

read-parts : {S F : Type 0} (step : S → List ℕ → Bool → Result S F) → LooksPastLineFeeds step
    → (front : List ℕ) → ((state : S) (bytes : List ℕ) (closed : Bool) → step state (front ++ bytes) closed ≡ step state bytes closed)
    → (line : ℕ) (state : S) (commands : List (List ℕ))
    → without_line (first_faulty_part_or line_of_command (step_on step) state (commands_from line (written_parts front commands)))
    ≡ and_then (first_fault_of step state commands) (λ next. step next (codes "E" ++ 10 ∷ []) false)
read-parts step looks front past line state [] =
    let last = codes "E" ++ 10 ∷ [] in
    last-read (line + line_ends_before (front ++ last)) (step state (front ++ last) false) ∙ past state last false
read-parts {S} {F} step looks front past line state (command ∷ commands) =
    let more = written_parts (10 ∷ []) commands in
    let behind = line + line_ends (front ++ command) in
    let rest : S → Result S (At F) = λ next. first_faulty_part_or line_of_command (step_on step) next (commands_from behind more) in
    ap (λ all. without_line (first_faulty_part_or line_of_command (step_on step) state all))
    (commands_from-cons line (front ++ command) more (written_parts-some (10 ∷ []) commands))
    ∙ (ap (λ found. without_line (unless_faulty (line + line_ends_before (front ++ command)) found rest)) (past state command true)
    ∙ first-read (line + line_ends_before (front ++ command)) (step state command true) rest
    (λ next. first_fault_of step next commands) (λ next. step next (codes "E" ++ 10 ∷ []) false)
    (λ next. read-parts step looks (10 ∷ []) looks behind next commands))

-- What is read of a written text is what its commands make of the state, one after another, and then `E`; or the first fault.
pub read-written : {S F : Type 0} (step : S → List ℕ → Bool → Result S F) → LooksPastLineFeeds step
    → (state : S) (commands : List (List ℕ)) → AreUnmarked commands
    → without_line (first_faulty_part_or line_of_command (step_on step) state (commands_of (written_text commands)))
    ≡ and_then (first_fault_of step state commands) (λ next. step next (codes "E" ++ 10 ∷ []) false)
read-written step looks state commands unmarked =
    ap (λ all. without_line (first_faulty_part_or line_of_command (step_on step) state all)) (commands_of-written commands unmarked)
    ∙ read-parts step looks [] (λ state bytes closed. refl) 1 state commands

fine : {S F : Type 0} (found : Result S (At F)) (last : S) → without_line found ≡ Ok last → found ≡ Ok last
fine (Ok state) last e = let same : state ≡ last = cc in ap Ok same
fine (Err at) last e = absurd (let no : ⊥ = cc in no)

-- a written text without fault
pub read-written-fine : {S F : Type 0} (step : S → List ℕ → Bool → Result S F) → LooksPastLineFeeds step
    → (state middle last : S) (commands : List (List ℕ)) → AreUnmarked commands
    → first_fault_of step state commands ≡ Ok middle → step middle (codes "E" ++ 10 ∷ []) false ≡ Ok last
    → first_faulty_part_or line_of_command (step_on step) state (commands_of (written_text commands)) ≡ Ok last
read-written-fine step looks state middle last commands unmarked before end =
    fine (first_faulty_part_or line_of_command (step_on step) state (commands_of (written_text commands))) last
    (read-written step looks state commands unmarked ∙ (ap (λ found. and_then found (λ next. step next (codes "E" ++ 10 ∷ []) false)) before ∙ end))

-- ---- commands, one after another

behind : {S F : Type 0} (found : Result S F) (more end whole : S → Result S F) → ((next : S) → whole next ≡ and_then (more next) end)
    → and_then found whole ≡ and_then (and_then found more) end
behind (Ok next) more end whole same = same next
behind (Err fault) more end whole same = refl

-- some commands and more commands
pub first_fault_of-append : {S F : Type 0} (step : S → List ℕ → Bool → Result S F) (state : S) (commands more : List (List ℕ))
    → first_fault_of step state (commands ++ more) ≡ and_then (first_fault_of step state commands) (λ next. first_fault_of step next more)
first_fault_of-append step state [] more = refl
first_fault_of-append step state (command ∷ commands) more =
    behind (step state command true) (λ next. first_fault_of step next commands) (λ next. first_fault_of step next more)
    (λ next. first_fault_of step next (commands ++ more)) (λ next. first_fault_of-append step next commands more)

-- the same where the first commands are without fault
pub first_fault_of-fine : {S F : Type 0} (step : S → List ℕ → Bool → Result S F) (state middle : S) (commands more : List (List ℕ))
    → first_fault_of step state commands ≡ Ok middle → first_fault_of step state (commands ++ more) ≡ first_fault_of step middle more
first_fault_of-fine step state middle commands more before =
    first_fault_of-append step state commands more ∙ ap (λ found. and_then found (λ next. first_fault_of step next more)) before
