-- The budget of a word, by its number of 64 bits.
use Rattle.std.proofs.Common.{◌≡◌, ◌∙◌, ◌^◌, ◌≤◌, ◌&&◌, ℕ, zero, suc, ℤ, pos, Bool, true, false, List, [], ◌∷◌, drop, Option, None, Result, Ok, Err}
use Rattle.std.proofs.Common.{refl, sym, ap, inl, inr, arith, neg_ℤ}
use Rattle.std.specs.Prelude.{int_le, int_lt, if◌then◌else◌}
use Rattle.std.specs.Str.Parse.{starts_with_minus}
use Rattle.std.proofs.lemmas.Bool.{cases_lt, eqb-true}
use Rattle.std.proofs.lemmas.Bool.Decides.{nat_tests}
use Rattle.std.proofs.lemmas.Grind.{common_steps}
use Rattle.std.proofs.lemmas.Int.{ints}
use mir.Syntax.{w64}
use mir.Val.{SFits}
use Rattle.text_scan.specs.declared.numeral.NumFault.{NumFault}
use Rattle.text_scan.specs.declared.numeral.NumFault.TheVariants.{Range}
use Rattle.text_scan.specs.Numbers.{natural_of, in_range, integer_of, number_of, signed, with_sign, within}
use Rattle.text_scan.proofs.NumberLemmas.{natural_of-empty, within_ok, within_outside}
use Rattle.run_words.specs.RunWords.{as_budget, budget_of, in_budget}
use Rattle.run_words.specs.steps.ClapWords.{signed_budget}
use Rattle.run_words.proofs.WalkLaws.{minus_is_none}

abbrev pub budget_in : Result ℤ NumFault → Option ℕ
budget_in (Ok z) = signed_budget z
budget_in (Err fault) = None

large : (n : ℕ) → 2 ^ 63 ≤ n → as_budget n ≡ None
large n above = grind (arith, nat_tests, common_steps)

plain_number : (n : ℕ) → budget_in (within (2 ^ 63) (pos n)) ≡ as_budget n
plain_number n = elim (cases_lt n (2 ^ 63)) [
  | inl below ↦ ap budget_in (within_ok (2 ^ 63) (pos n) below)
  | inr above ↦ ap budget_in (within_outside (2 ^ 63) (pos n) (omega arith) above) ∙ sym (large n above)
]

plain_word : (read : Result ℕ NumFault) → budget_in (in_range (2 ^ 63) (signed false read)) ≡ in_budget read
plain_word (Ok n) = plain_number n
plain_word (Err fault) = refl

no_budget : (test : Bool) (z : ℤ) → signed_budget z ≡ None → budget_in (if test then Ok z else Err Range) ≡ None
no_budget true z e = e
no_budget false z e = refl

negative_none : (n : ℕ) → signed_budget (with_sign true n) ≡ None
negative_none zero = refl
negative_none (suc n) = refl

minus_word : (read : Result ℕ NumFault) → budget_in (in_range (2 ^ 63) (signed true read)) ≡ None
minus_word (Ok n) =
    no_budget (int_le (neg_ℤ (pos (2 ^ 63))) (with_sign true n) && int_lt (with_sign true n) (pos (2 ^ 63))) (with_sign true n) (negative_none n)
minus_word (Err fault) = refl

chosen_fits : (test : Bool) (y z : ℤ) → (int_le (neg_ℤ (pos (2 ^ 63))) y && int_lt y (pos (2 ^ 63))) ≡ test
    → (if test then Ok y else Err Range) ≡ Ok z → SFits w64 z
chosen_fits true y z t e = let same : y ≡ z = cc in record { sfits = grind (arith, ints) }
chosen_fits false y z t e = cc

range_fits : (read : Result ℤ NumFault) (z : ℤ) → in_range (2 ^ 63) read ≡ Ok z → SFits w64 z
range_fits (Ok y) z e = chosen_fits (int_le (neg_ℤ (pos (2 ^ 63))) y && int_lt y (pos (2 ^ 63))) y z refl e
range_fits (Err fault) z e = cc

-- a number that was read has 64 bits
pub number_fits : (word : List ℕ) (z : ℤ) → number_of word ≡ Ok z → SFits w64 z
unfolding number_of
number_fits word z e = range_fits (integer_of word) z e

minus_first : (word : List ℕ) → starts_with_minus word ≡ true → budget_of word ≡ None
minus_first [] e = ap in_budget (natural_of-empty [] refl)
minus_first (byte ∷ rest) e = ap (λ (first : ℕ). budget_of (first ∷ rest)) (eqb-true byte 45 e) ∙ minus_is_none rest

pub budget_by_number : (word : List ℕ) → budget_in (number_of word) ≡ budget_of word
unfolding number_of
budget_by_number word = go (starts_with_minus word) refl
  where
    go : (minus : Bool) → starts_with_minus word ≡ minus → budget_in (in_range (2 ^ 63) (integer_of word)) ≡ budget_of word
    go true e = rw e (minus_word (natural_of (drop 1 word))) ∙ sym (minus_first word e)
    go false e = rw e (plain_word (natural_of word))
