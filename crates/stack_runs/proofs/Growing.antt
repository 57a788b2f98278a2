-- Sums that grow by one, and texts that are joined.
use Rattle.std.proofs.Common.{◌≡◌, ◌<◌, ◌+◌, ℕ, ℤ, List, [], ◌∷◌, length, get_or, take, sym, ap, ◌∙◌, ◌++◌, append_assoc, arith}
use Rattle.std.specs.Prelude.{◌+ℤ◌}
use Rattle.std.proofs.lemmas.Int.{ints}
use Rattle.std.proofs.lemmas.List.{take_more}
use Rattle.finite_sets.specs.Total.{sum_on}
use Rattle.finite_sets.proofs.Sums.{sum_on-push}

-- the sum of one thing more of a list
one_more : {X : Type 0} (w : X → ℤ) (xs : List X) (k : ℕ) (x : X) → k < length xs → x ≡ get_or xs k x
    → sum_on w (take (k + 1) xs) ≡ sum_on w (take k xs) +ℤ w x
one_more w xs k x below is =
    ap (sum_on w) (take_more xs k x below) ∙ sum_on-push w (take k xs) (get_or xs k x) ∙ ap (λ (v : ℤ). sum_on w (take k xs) +ℤ v) (sym (ap w is))

-- a sum to which it is added
pub sum_more : {X : Type 0} (w : X → ℤ) (xs : List X) (k : ℕ) (x : X) (before after : ℤ) → k < length xs → x ≡ get_or xs k x
    → before ≡ sum_on w (take k xs) → after ≡ before +ℤ w x → after ≡ sum_on w (take (k + 1) xs)
sum_more w xs k x before after below is sum added = added ∙ ap (λ (s : ℤ). s +ℤ w x) sum ∙ sym (one_more w xs k x below is)

-- the same behind what was there at the start
pub sum_more_from : {X : Type 0} (w : X → ℤ) (xs : List X) (k : ℕ) (x : X) (start before after : ℤ) → k < length xs → x ≡ get_or xs k x
    → before ≡ start +ℤ sum_on w (take k xs) → after ≡ before +ℤ w x → after ≡ start +ℤ sum_on w (take (k + 1) xs)
sum_more_from w xs k x start before after below is sum added = omega (arith, ints, added, sum, one_more w xs k x below is)

-- two texts behind another
pub texts_joined : (old first second mid after : List ℕ) → mid ≡ old ++ first → after ≡ mid ++ second → after ≡ old ++ (first ++ second)
texts_joined old first second mid after one other = other ∙ ap (λ (text : List ℕ). text ++ second) one ∙ append_assoc old first second
