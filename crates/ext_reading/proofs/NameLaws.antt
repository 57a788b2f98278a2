-- Names among others.
use Rattle.ext_reading.proofs.Common.{◌≡◌, ◌+◌, ◌||◌, ℕ, Bool, true, false, not, cond, List, [], ◌∷◌, length, refl, ◌∙◌, arith, Some, None, nat_lt}
use Rattle.ext_reading.proofs.Common.{list_any, position, position_or_len, is_some, nat_tests}

-- the place tells whether something passes
pub place_found : {X : Type 0} (test : X → Bool) (xs : List X) → nat_lt (position_or_len test xs) (length xs) ≡ list_any test xs
place_found test [] = refl
place_found test (x ∷ xs) = step (test x) (place_found test xs)
  where
    step : (t : Bool) → nat_lt (position_or_len test xs) (length xs) ≡ list_any test xs
        → nat_lt (cond (not t) (1 + position_or_len test xs) 0) (length (x ∷ xs)) ≡ (t || list_any test xs)
    step true later = grind (arith, nat_tests)
    step false later =
        let same : nat_lt (1 + position_or_len test xs) (length (x ∷ xs)) ≡ nat_lt (position_or_len test xs) (length xs) = grind (arith, nat_tests) in
        same ∙ later

is_some-cond : (t : Bool) (k : ℕ) → is_some (cond t (Some k) None) ≡ t
is_some-cond true k = refl
is_some-cond false k = refl

-- a place is found exactly where something passes
pub found_place : {X : Type 0} (test : X → Bool) (xs : List X) → is_some (position test xs) ≡ list_any test xs
found_place test xs = is_some-cond (nat_lt (position_or_len test xs) (length xs)) (position_or_len test xs) ∙ place_found test xs
