-- A text is refused exactly at its first faulty line, or at its end.
use Rattle.mag_text.proofs.Common.{◌≡◌, ℕ, List, Result, Ok, Err, inl, inr, refl, sym, ap, ◌∙◌, lines_of, text_state, RawTech, MagFault, Draft}
use Rattle.mag_text.proofs.Common.{nothing_yet, step, finish}
use Rattle.std.proofs.Common.{◌↔◌}
use Rattle.text_form.specs.declared.reading.At.{At}
use Rattle.text_form.specs.Folds.{fault_at, first_fault_or, last_number, ended_at, finished}
use Rattle.text_form.proofs.FoldLaws.{first_fault_or-first, first_fault_or-refused}
use Rattle.mag_text.specs.MagTexts.{mag_in, HasNoEnd, IsRefusedText}

unended : (raw : RawTech) (lines : List (List ℕ)) (at : At MagFault) (draft : Draft) (found : Result Draft MagFault)
    → first_fault_or (step raw) 1 nothing_yet lines ≡ Ok draft → finish draft ≡ found → ended_at (last_number lines) found ≡ Err at → HasNoEnd raw lines at
unended raw lines at draft (Ok last) fine is e = absurd (let no : ⊥ = cc in no)
unended raw lines at draft (Err fault) fine is e =
    let same : fault_at (last_number lines) fault ≡ at = cc in
    record { draft = draft; fine = fine; unended = is ∙ ap (λ (a : At MagFault). Err a.fault) same; numbered = sym (ap (λ (a : At MagFault). a.line) same) }

refused : (raw : RawTech) (lines : List (List ℕ)) (at : At MagFault) (found : Result Draft (At MagFault))
    → first_fault_or (step raw) 1 nothing_yet lines ≡ found
    → finished finish (last_number lines) found ≡ Err at → IsRefusedText raw lines at
refused raw lines at (Err other) is e = let same : Err other ≡ Err at = e in inl (first_fault_or-first (step raw) 1 nothing_yet lines at (is ∙ same))
refused raw lines at (Ok draft) is e = inr (unended raw lines at draft (finish draft) is refl e)

refuses : (raw : RawTech) (lines : List (List ℕ)) (at : At MagFault) → IsRefusedText raw lines at → text_state (step raw) finish nothing_yet lines ≡ Err at
refuses raw lines at (inl first) = ap (finished finish (last_number lines)) (first_fault_or-refused (step raw) 1 nothing_yet lines at first)
refuses raw lines at (inr none) =
    ap (finished finish (last_number lines)) none.fine ∙ ap (ended_at (last_number lines)) none.unended
    ∙ ap (λ (k : ℕ). Err (fault_at k at.fault)) (sym none.numbered)

-- a text is refused exactly at its first faulty line, or at its end
pub mag_in-refused : (raw : RawTech) (text : List ℕ) (at : At MagFault) → (mag_in raw text ≡ Err at) ↔ IsRefusedText raw (lines_of text) at
unfolding mag_in
mag_in-refused raw text at =
    let lines = lines_of text in
    (refused raw lines at (first_fault_or (step raw) 1 nothing_yet lines) refl, refuses raw lines at)
