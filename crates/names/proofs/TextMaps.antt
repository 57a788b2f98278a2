-- Maps from texts.
use Rattle.names.proofs.Common.{◌≡◌, ◌≢◌, ℕ, List, true, false, inl, inr, refl, sym, nat_cmp, is_eq, Ordering, Less, Equal, Greater, slice_cmp}
use Rattle.names.proofs.Common.{nat_cmp-IsAntisymmetric, slice_cmp-IsAntisymmetric, is_at, cases_Bool, false≢true}

equal_from_test : (order : Ordering) → is_eq order ≡ true → order ≡ Equal
equal_from_test Less is = absurd (false≢true is)
equal_from_test Equal is = refl
equal_from_test Greater is = absurd (false≢true is)

-- the test for a text fails at another one
pub apart_from_test : (key other : List ℕ) → other ≢ key → is_at (slice_cmp nat_cmp key) other ≡ false
apart_from_test key other apart = elim (cases_Bool (is_at (slice_cmp nat_cmp key) other)) [
  | inl at ↦ absurd (apart (sym (slice_cmp-IsAntisymmetric nat_cmp-IsAntisymmetric key other (equal_from_test (slice_cmp nat_cmp key other) at))))
  | inr away ↦ away
]
