-- A text is refused exactly at its first faulty line.
use Rattle.sim_text.proofs.Common.{◌≡◌, ◌↔◌, ◌+◌, ◌==◌, ℕ, Bool, true, false, cond, List, [], ◌∷◌, length, Result, Ok, Err, refl, sym, ap, ◌∙◌, fold}
use Rattle.sim_text.proofs.Common.{lines_of, first_fault_or, text_state, last_number, ended_at, and_then, saying, read_said, said_of, SimFault}
use Rattle.sim_text.proofs.Common.{NoHeader, SimFile, SimLine, says}
use Rattle.std.proofs.Common.{inl, inr}
use Rattle.text_form.specs.declared.reading.At.{At}
use Rattle.text_form.specs.Folds.{fault_at, finished}
use Rattle.text_form.proofs.FoldLaws.{first_fault_or-first, first_fault_or-refused}
use Rattle.sim_text.specs.SimTexts.{nothing_yet, with_line, with_header, sim_in, IsFirstFaultyLine, IsRefusedText}
use Rattle.sim_text.proofs.SpelledTexts.{tech_said}

-- a line that refuses a text has the fault by itself
line_is_faulty : (found : Result SimLine SimFault) (state : SimFile) (fault : SimFault)
    → and_then found (λ said. Ok (with_line state said)) ≡ Err fault → found ≡ Err fault
line_is_faulty (Ok said) state fault e = absurd (let no : ⊥ = cc in no)
line_is_faulty (Err other) state fault e = let same : other ≡ fault = cc in ap Err same

faulty_line : (lines : List (List ℕ)) (at : At SimFault) → first_fault_or (saying says with_line) 1 nothing_yet lines ≡ Err at → IsFirstFaultyLine lines at
faulty_line lines at e =
    let first = first_fault_or-first (saying says with_line) 1 nothing_yet lines at e in
    let told = said_of says with_line 1 nothing_yet first.before first.state first.fine in
    record {
      before = first.before;
      line = first.line;
      after = first.after;
      said = told.0;
      lines_are = first.lines_are;
      fine = told.1;
      numbered = first.numbered;
      faulty = line_is_faulty (says (1 + length first.before) first.line) first.state at.fault first.faulty;
    }

line_refuses : (lines : List (List ℕ)) (at : At SimFault) → IsFirstFaultyLine lines at → first_fault_or (saying says with_line) 1 nothing_yet lines ≡ Err at
line_refuses lines at is =
    let state = fold with_line nothing_yet is.said in
    first_fault_or-refused (saying says with_line) 1 nothing_yet lines at (record {
      before = is.before;
      line = is.line;
      after = is.after;
      state = state;
      lines_are = is.lines_are;
      fine = read_said says with_line 1 nothing_yet is.before is.said is.fine;
      numbered = is.numbered;
      faulty = ap (λ found. and_then found (λ said. Ok (with_line state said))) is.faulty;
    })

-- a text whose lines all say something is refused at its end alone, and only where it has no line
end_refuses : (lines : List (List ℕ)) (state : SimFile) (at : At SimFault) (empty : Bool)
    → first_fault_or (saying says with_line) 1 nothing_yet lines ≡ Ok state → (length state.tech == 0) ≡ empty
    → ended_at (last_number lines) (cond empty (Err NoHeader) (Ok state)) ≡ Err at → IsRefusedText lines at
end_refuses lines state at false read is e = absurd (let no : ⊥ = cc in no)
end_refuses [] state at true read is e = let same : fault_at 1 NoHeader ≡ at = cc in inr (refl, sym same)
end_refuses (line ∷ lines) state at true read is e =
    let told = said_of says with_line 1 nothing_yet (line ∷ lines) state read in
    let some : (length state.tech == 0) ≡ false = sym (ap (λ (s : SimFile). length s.tech == 0) told.2) ∙ tech_said line lines told.0 told.1 in
    absurd (let no : true ≡ false = sym is ∙ some in let none : ⊥ = cc in none)

whole_refused : (lines : List (List ℕ)) (at : At SimFault) (found : Result SimFile (At SimFault))
    → first_fault_or (saying says with_line) 1 nothing_yet lines ≡ found → finished with_header (last_number lines) found ≡ Err at → IsRefusedText lines at
whole_refused lines at (Err other) is e =
    let same : Err other ≡ Err at = e in
    inl (faulty_line lines at (is ∙ same))
whole_refused lines at (Ok state) is e = end_refuses lines state at (length state.tech == 0) is refl e

refused_whole : (lines : List (List ℕ)) (at : At SimFault) → IsRefusedText lines at → text_state (saying says with_line) with_header nothing_yet lines ≡ Err at
refused_whole lines at (inl is) = ap (finished with_header (last_number lines)) (line_refuses lines at is)
refused_whole lines at (inr is) = ap (text_state (saying says with_line) with_header nothing_yet) is.0 ∙ ap Err (sym is.1)

pub sim_in-refused : (text : List ℕ) (at : At SimFault) → (sim_in text ≡ Err at) ↔ IsRefusedText (lines_of text) at
unfolding sim_in
sim_in-refused text at =
    let lines = lines_of text in
    (whole_refused lines at (first_fault_or (saying says with_line) 1 nothing_yet lines) refl, refused_whole lines at)
