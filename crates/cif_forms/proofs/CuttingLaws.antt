-- Commands, one after another.
use Rattle.cif_forms.proofs.Common.{◌≡◌, ℕ, ◌+◌, ◌<◌, ◌≤◌, Bool, true, false, Result, Ok, Err, Some, None, cond, List, [], ◌∷◌, length, take, drop}
use Rattle.cif_forms.proofs.Common.{refl, sym, ap, ◌∙◌, arith, inl, inr, slice_split, position, position_or_len, All, cases_lt, lt-ltb, is_semicolon}
use Rattle.cif_forms.proofs.Common.{At, line_of_command, first_faulty_part_or, command_at, commands_from, line_ends, line_ends_before, step_on}
use Rattle.std.specs.List.{before_first, after_first}
use Rattle.std.proofs.lemmas.Bool.{le-ltb}
use Rattle.std.proofs.lemmas.List.Splits.{slice_split_first, slice_split_none, length-slice_split}
use Rattle.std.proofs.lemmas.List.Sums.{fails_before_first}
use Rattle.text_form.specs.Folds.{fault_at, unless_faulty}
use Rattle.cif_forms.specs.Cutting.{IsFirstCommand, IsLastCommand}

-- a command before others has its semicolon
pub commands_from-cons : (line : ℕ) (part : List ℕ) (parts : List (List ℕ)) → 0 < length parts
    → commands_from line (part ∷ parts) ≡ command_at line part true ∷ commands_from (line + line_ends part) parts
commands_from-cons line part [] h = absurd (omega arith)
commands_from-cons line part (next ∷ parts) h = refl

-- a text with a semicolon: the command before it, and what stands behind
pub commands-first : (line : ℕ) (text : List ℕ) → position_or_len is_semicolon text < length text
    → commands_from line (slice_split is_semicolon text)
    ≡ command_at line (before_first is_semicolon text) true
    ∷ commands_from (line + line_ends (before_first is_semicolon text)) (slice_split is_semicolon (after_first is_semicolon text))
commands-first line text inside =
    ap (commands_from line) (slice_split_first is_semicolon text 0 inside)
    ∙ commands_from-cons line (before_first is_semicolon text) (slice_split is_semicolon (after_first is_semicolon text))
    (omega (arith, length-slice_split is_semicolon (after_first is_semicolon text)))

-- a text without one
pub commands-last : (line : ℕ) (text : List ℕ) → length text ≤ position_or_len is_semicolon text
    → commands_from line (slice_split is_semicolon text) ≡ command_at line text false ∷ []
commands-last line text none =
    let plain : All (λ byte. is_semicolon byte ≡ false) text = λ k d m. fails_before_first is_semicolon text k d (omega arith) in
    ap (commands_from line) (slice_split_none is_semicolon text plain)

pub cut-at : (text : List ℕ) (end : ℕ) → position is_semicolon text ≡ Some end → IsFirstCommand text (take end text) (drop (end + 1) text)
cut-at text end e = λ line.
    let first = position_or_len is_semicolon text in
    elim (cases_lt first (length text)) [
      | inl inside ↦
          let is : Some first ≡ Some end = sym (ap (λ test. cond test (Some first) None) (lt-ltb first (length text) inside)) ∙ e in
          let same : first ≡ end = cc in
          commands-first line text inside
          ∙ ap (λ k. command_at line (take k text) true ∷ commands_from (line + line_ends (take k text)) (slice_split is_semicolon (drop (k + 1) text))) same
      | inr past ↦ absurd (let bad : None ≡ Some end = sym (ap (λ test. cond test (Some first) None) (le-ltb first (length text) past)) ∙ e in cc)
    ]

pub last-at : (text : List ℕ) → position is_semicolon text ≡ None → IsLastCommand text
last-at text e = λ line.
    let first = position_or_len is_semicolon text in
    elim (cases_lt first (length text)) [
      | inl inside ↦ absurd (let bad : Some first ≡ None = sym (ap (λ test. cond test (Some first) None) (lt-ltb first (length text) inside)) ∙ e in cc)
      | inr past ↦ commands-last line text past
    ]

-- ---- reading

-- the last command, with a fault
pub last-faulty : {S F : Type 0} (step : S → List ℕ → Bool → Result S F) (state : S) (line : ℕ) (text : List ℕ) (at : At F) → IsLastCommand text
    → step state text false ≡ Err at.fault → at.line ≡ line + line_ends_before text
    → first_faulty_part_or line_of_command (step_on step) state (commands_from line (slice_split is_semicolon text)) ≡ Err at
last-faulty step state line text at last faulty there =
    ap (first_faulty_part_or line_of_command (step_on step) state) (last line)
    ∙ (ap (λ found. unless_faulty (line + line_ends_before text) found (λ after. Ok after)) faulty
    ∙ ap (λ (k : ℕ). Err (fault_at k at.fault)) (sym there))
