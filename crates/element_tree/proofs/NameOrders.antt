-- The order of the names of elements within paths is total, and names that tie in it are one.
use Rattle.element_tree.proofs.Common.{◌≡◌, ℕ, ◌<◌, List, [], ◌∷◌, ◌++◌, refl, Ordering, Less, Equal, Greater, nat_cmp, ordering_then, slice_cmp}
use Rattle.element_tree.proofs.Common.{SLASH, element_cmp}
use Rattle.std.specs.Cmp.{IsTotalOrder}
use Rattle.std.specs.Ordering.{MatchOrdering}
use Rattle.std.proofs.lemmas.Cmp.{ranked, on_total, nat_list_cmp_total}
use Rattle.std.proofs.lemmas.List.{append_cancel_right}

-- the order is total
pub element_cmp_total : IsTotalOrder element_cmp
element_cmp_total = on_total (λ id. id ++ SLASH ∷ []) nat_list_cmp_total

-- names that compare equal are one
slice_cmp-Equal : (xs ys : List ℕ) → slice_cmp nat_cmp xs ys ≡ Equal → xs ≡ ys
slice_cmp-Equal [] [] e = refl
slice_cmp-Equal [] (y ∷ ys) e = cc
slice_cmp-Equal (x ∷ xs) [] e = cc
slice_cmp-Equal (x ∷ xs) (y ∷ ys) e = step (slice_cmp-Equal xs ys) (nat_cmp x y) (ranked x y (nat_cmp x y) refl) e
  where
    step : (slice_cmp nat_cmp xs ys ≡ Equal → xs ≡ ys) → (r : Ordering) → MatchOrdering r (x < y) (x ≡ y) (y < x)
        → ordering_then r (slice_cmp nat_cmp xs ys) ≡ Equal → (x ∷ xs) ≡ (y ∷ ys)
    step more Less h k = cc
    step more Equal h k = let rest = more k in cc
    step more Greater h k = cc

-- names of elements that tie are one
pub element_cmp-Equal : (id other : List ℕ) → element_cmp id other ≡ Equal → id ≡ other
element_cmp-Equal id other e = append_cancel_right id other (SLASH ∷ []) (slice_cmp-Equal (id ++ SLASH ∷ []) (other ++ SLASH ∷ []) e)
