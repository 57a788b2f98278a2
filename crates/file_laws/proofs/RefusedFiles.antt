-- A circuit file is refused exactly at its first faulty line, or at its last where it has no header.
use Rattle.file_laws.proofs.Common.{◌≡◌, ◌↔◌, ℕ, Bool, true, false, cond, List, Result, Ok, Err, inl, inr, refl, sym, ap, ◌∙◌, lines_of, At}
use Rattle.file_laws.proofs.Common.{and_then, ExtReadFault, NoHeader}
use Rattle.text_form.specs.Folds.{fault_at, first_fault_or, last_number, ended_at, finished}
use Rattle.text_form.proofs.FoldLaws.{first_fault_or-first, first_fault_or-refused}
use Rattle.ext_reading.specs.Drafts.{Draft, nothing_yet, step, finish, is_incomplete}
use Rattle.ext_reading.specs.ExtTexts.{outline_of, draft_in, record_of, ext_in}
use Rattle.file_laws.specs.CircuitFiles.{IsRefusedFile}

-- a record is made of every draft
draft_refused : (cell : List ℕ) (found : Result Draft (At ExtReadFault)) (at : At ExtReadFault)
    → and_then found (λ draft. Ok (record_of cell draft)) ≡ Err at → found ≡ Err at
draft_refused cell (Ok draft) at e = absurd (let no : ⊥ = cc in no)
draft_refused cell (Err other) at e = let same : other ≡ at = cc in ap Err same

-- the end of a text is faulty where it has no header
end_refused : (last : ℕ) (draft : Draft) (incomplete : Bool) (at : At ExtReadFault) → is_incomplete draft.seen ≡ incomplete
    → ended_at last (cond incomplete (Err NoHeader) (Ok draft)) ≡ Err at → (incomplete ≡ true) × (fault_at last NoHeader ≡ at)
end_refused last draft true at is e = (refl, (let same : fault_at last NoHeader ≡ at = cc in same))
end_refused last draft false at is e = absurd (let no : ⊥ = cc in no)

refused : (text : List ℕ) (found : Result Draft (At ExtReadFault)) (at : At ExtReadFault)
    → first_fault_or (step (outline_of (lines_of text))) 1 nothing_yet (lines_of text) ≡ found
    → finished finish (last_number (lines_of text)) found ≡ Err at → IsRefusedFile text at
refused text (Ok draft) at is e =
    let end = end_refused (last_number (lines_of text)) draft (is_incomplete draft.seen) at refl e in
    inr (record {
      draft = draft;
      fine = is;
      incomplete = end.0;
      numbered = sym (ap (λ a. a.line) end.1);
      fault = sym (ap (λ a. a.fault) end.1);
    })
refused text (Err other) at is e =
    let same : other ≡ at = cc in
    inl (first_fault_or-first (step (outline_of (lines_of text))) 1 nothing_yet (lines_of text) at (is ∙ ap Err same))

line_refuses : (text : List ℕ) (at : At ExtReadFault) → IsRefusedFile text at
    → finished finish (last_number (lines_of text)) (first_fault_or (step (outline_of (lines_of text))) 1 nothing_yet (lines_of text)) ≡ Err at
line_refuses text at (inl first) =
    ap (finished finish (last_number (lines_of text))) (first_fault_or-refused (step (outline_of (lines_of text))) 1 nothing_yet (lines_of text) at first)
line_refuses text at (inr lacks) =
    let last = last_number (lines_of text) in
    let there : fault_at last NoHeader ≡ at =
    ap (λ (n : ℕ). fault_at n NoHeader) (sym lacks.numbered) ∙ ap (λ f. fault_at at.line f) (sym lacks.fault) in
    ap (finished finish last) lacks.fine
    ∙ (ap (λ (b : Bool). ended_at last (cond b (Err NoHeader) (Ok lacks.draft))) lacks.incomplete ∙ ap Err there)

pub ext_in-refused : (cell text : List ℕ) (at : At ExtReadFault) → (ext_in cell text ≡ Err at) ↔ IsRefusedFile text at
unfolding draft_in
ext_in-refused cell text at = (
  λ e. refused text (first_fault_or (step (outline_of (lines_of text))) 1 nothing_yet (lines_of text)) at refl (draft_refused cell (draft_in text) at e),
  λ is. ap (λ found. and_then found (λ draft. Ok (record_of cell draft))) (line_refuses text at is),
)
