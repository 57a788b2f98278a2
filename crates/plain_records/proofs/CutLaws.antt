-- What stands behind the first of such bytes.
use Rattle.plain_records.proofs.Common.{◌≡◌, ℕ, ◌+◌, Bool, true, false, cond, List, [], length, take, drop, refl, sym, ◌∙◌, ap, arith, Some, None}
use Rattle.plain_records.proofs.Common.{take_all, same_Some}
use Rattle.std.proofs.Common.{◌-◌, ◌==◌}
use Rattle.std.specs.Prelude.{nat_lt}
use Rattle.std.specs.List.{position, position_or_len}
use Rattle.std.proofs.lemmas.Bool.{ltb-false}
use Rattle.std.proofs.lemmas.List.{drop_all, length-drop}
use Rattle.ext_model.specs.Plain.{behind}
use Rattle.ext_model.proofs.CutLaws.{behind-after}

-- the bytes behind the place of the first
pub cut_back : (mark end : ℕ) (text : List ℕ) → position (λ byte. byte == mark) text ≡ Some end
    → take (length text - (end + 1)) (drop (end + 1) text) ≡ behind mark text
cut_back mark end text at = step (nat_lt place (length text)) refl
  where
    place : ℕ
    place = position_or_len (λ byte. byte == mark) text

    step : (t : Bool) → nat_lt place (length text) ≡ t → take (length text - (end + 1)) (drop (end + 1) text) ≡ behind mark text
    step true e =
        let here : Some place ≡ Some end = ap (λ (b : Bool). cond b (Some place) None) (sym e) ∙ at in
        let same = same_Some place end here in
        take_all (length text - (end + 1)) (drop (end + 1) text) (let long = length-drop (end + 1) text in omega (arith, long))
        ∙ ap (λ n. drop (n + 1) text) (sym same) ∙ sym (behind-after mark text)
    step false e =
        let none : None ≡ Some end = ap (λ (b : Bool). cond b (Some place) None) (sym e) ∙ at in absurd (cc)

-- nothing is behind where there is none
pub cut_none : (mark : ℕ) (text : List ℕ) → position (λ byte. byte == mark) text ≡ None → behind mark text ≡ []
cut_none mark text at = step (nat_lt place (length text)) refl
  where
    place : ℕ
    place = position_or_len (λ byte. byte == mark) text

    step : (t : Bool) → nat_lt place (length text) ≡ t → behind mark text ≡ []
    step true e =
        let some : Some place ≡ None = ap (λ (b : Bool). cond b (Some place) None) (sym e) ∙ at in absurd (cc)
    step false e =
        let past = ltb-false place (length text) e in
        behind-after mark text ∙ drop_all (place + 1) text (omega (arith, past))
