-- A text whose lines are without fault gives a sound draft.
use Rattle.tech_file.proofs.Common.{◌≡◌, ◌==◌, ◌&&◌, ℕ, List, [], ◌∷◌, subst, inl, inr, cases_Bool, last_number, Section, Drafted, empty_draft}
use Rattle.tech_file.proofs.Common.{and_then-ok, rule-ok, Place, Between, Skipped, Within, Heading, Reading, content_of, is_end, name_alone}
use Rattle.tech_file.proofs.Common.{headings_of, standing, draft_after, read_line}
use Rattle.std.proofs.Common.{Ok}
use Rattle.text_form.proofs.FoldLaws.{first_fault_or-keeps}
use Rattle.tech_model.specs.declared.faults.Section.TheVariants.{Tech}
use Rattle.tech_model.specs.declared.faults.TechFault.TheVariants.{BadForm}
use Rattle.tech_draft.specs.Sound.{IsSound}
use Rattle.tech_draft.proofs.SoundDrafts.{IsSound-empty}
use Rattle.tech_draft.proofs.SoundLines.{made, IsSound-line}
use Rattle.tech_file.specs.Outlines.{ends_open}
use Rattle.tech_file.specs.Reading.{read_between, end_of, step_in, EndsWell}
use Rattle.tech_file.proofs.TextRests.{line-taken}

end-sound : (section : Section) (name : List ℕ) (draft next : Drafted) → IsSound draft → end_of section name draft ≡ Ok next → IsSound next
end-sound Tech [] draft next sound e = absurd (cc)
end-sound _ _ draft next sound e = made draft next e sound

draft-sound : (headings : List Heading) (number : ℕ) (place : Place) (draft next : Drafted) (words : List (List ℕ)) → IsSound draft
    → draft_after headings number place draft words ≡ Ok next → IsSound next
draft-sound headings number place draft next [] sound e = made draft next e sound
draft-sound headings number Between draft next (word ∷ words) sound e =
    made draft next (and_then-ok (read_between headings number (name_alone (word ∷ words))) (λ _. Ok draft) next e).1.1 sound
draft-sound headings number Skipped draft next (word ∷ words) sound e = made draft next e sound
draft-sound headings number (Within section) draft next (word ∷ words) sound e = elim (cases_Bool (is_end (word ∷ words))) [
  | inl ends ↦ end-sound section draft.raw.name draft next sound (rw ends at e)
  | inr goes_on ↦ IsSound-line section draft next (word ∷ words) sound (rw goes_on at e)
]

step-sound : (text : List (List ℕ)) (number : ℕ) (before : Reading) (line : List ℕ) (next : Reading) → IsSound before.draft
    → step_in text number before line ≡ Ok next → IsSound next.draft
step-sound text number before line next sound e =
    let goes_on = rule-ok (ends_open text && number == last_number text) BadForm
    (read_line (headings_of text) number before.place before.draft (content_of line)) next e in
    let taken = line-taken (headings_of text) number before.place before.draft (content_of line) next goes_on.1 in
    subst (λ (reading : Reading). IsSound reading.draft) taken.1.1
    (draft-sound (headings_of text) number before.place before.draft taken.0 (content_of line) sound taken.1.0)

-- lines that end well leave a sound draft
pub EndsWell-sound : (lines : List (List ℕ)) (draft : Drafted) → EndsWell lines draft → IsSound draft
EndsWell-sound lines draft ends =
    first_fault_or-keeps (λ (reading : Reading). IsSound reading.draft) (step_in lines) (step-sound lines) 1
    (standing Between empty_draft) lines (standing ends.0 draft) IsSound-empty ends.1
