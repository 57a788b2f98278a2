-- A vector file is refused exactly at its first faulty line.
use Rattle.vector_files.proofs.Common.{◌≡◌, ◌+◌, ℕ, List, Ok, Err, ap, lines_of, and_then, saying, VecFault, VecLine, Vectors, says}
use Rattle.std.proofs.Common.{◌↔◌, length, Option, Result}
use Rattle.std.specs.Prelude.{fold}
use Rattle.text_form.specs.declared.reading.At.{At}
use Rattle.text_form.specs.Folds.{first_fault_or, finished, last_number}
use Rattle.text_form.proofs.FoldLaws.{first_fault_or-first, first_fault_or-refused}
use Rattle.text_form.proofs.SaidLaws.{read_said, said_of}
use Rattle.vector_files.specs.VectorFiles.{nothing_yet, with_said, vectors_in, IsRefusedAt}

-- a line that refuses a file has the fault by itself
line_is_faulty : (found : Result (Option (ℕ × VecLine)) VecFault) (state : Vectors) (fault : VecFault)
    → and_then found (λ said. Ok (with_said state said)) ≡ Err fault → found ≡ Err fault
line_is_faulty (Ok said) state fault e = absurd (let no : ⊥ = cc in no)
line_is_faulty (Err other) state fault e = let same : other ≡ fault = cc in ap Err same

faulty_line : (names : List (List ℕ × ℕ)) (text : List ℕ) (at : At VecFault)
    → first_fault_or (saying (says names) with_said) 1 nothing_yet (lines_of text) ≡ Err at → IsRefusedAt names text at
faulty_line names text at e =
    let first = first_fault_or-first (saying (says names) with_said) 1 nothing_yet (lines_of text) at e in
    let told = said_of (says names) with_said 1 nothing_yet first.before first.state first.fine in
    record {
      before = first.before;
      line = first.line;
      after = first.after;
      said = told.0;
      lines_are = first.lines_are;
      fine = told.1;
      numbered = first.numbered;
      faulty = line_is_faulty (says names (1 + length first.before) first.line) first.state at.fault first.faulty;
    }

line_refuses : (names : List (List ℕ × ℕ)) (text : List ℕ) (at : At VecFault)
    → IsRefusedAt names text at → first_fault_or (saying (says names) with_said) 1 nothing_yet (lines_of text) ≡ Err at
line_refuses names text at is =
    let state = fold with_said nothing_yet is.said in
    first_fault_or-refused (saying (says names) with_said) 1 nothing_yet (lines_of text) at (record {
      before = is.before;
      line = is.line;
      after = is.after;
      state = state;
      lines_are = is.lines_are;
      fine = read_said (says names) with_said 1 nothing_yet is.before is.said is.fine;
      numbered = is.numbered;
      faulty = ap (λ found. and_then found (λ said. Ok (with_said state said))) is.faulty;
    })

-- the end of a file has no fault
whole_refused : (last : ℕ) (found : Result Vectors (At VecFault)) (at : At VecFault) → finished Ok last found ≡ Err at → found ≡ Err at
whole_refused last (Ok state) at e = absurd (let no : ⊥ = cc in no)
whole_refused last (Err other) at e = e

pub vectors_in-refused : (names : List (List ℕ × ℕ)) (text : List ℕ) (at : At VecFault)
    → (vectors_in names text ≡ Err at) ↔ IsRefusedAt names text at
unfolding vectors_in
vectors_in-refused names text at =
    let found = first_fault_or (saying (says names) with_said) 1 nothing_yet (lines_of text) in
    let last = last_number (lines_of text) in
    (λ e. faulty_line names text at (whole_refused last found at e), λ is. ap (finished Ok last) (line_refuses names text at is))
