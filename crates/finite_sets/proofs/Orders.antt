-- Laws of lexicographic order: what comparisons by several keys say, and what a list sorted by a comparison has.
use Rattle.std.proofs.Common.{◌≡◌, ℕ, ◌+◌, ◌<◌, ◌≤◌, ℤ, ◌<ℤ◌, ◌≤ℤ◌, ◌⊎◌, inl, inr, false, List, refl, sym, ap, ◌∙◌, arith}
use Rattle.std.specs.Prelude.{AllPairs, IsSorted}
use Rattle.std.specs.Cmp.{IsTotalOrder, nat_cmp_is}
use Rattle.std.specs.List.Sorted.{IsSortedByKey}
use Rattle.std.specs.declared.cmp.Ordering.{Ordering}
use Rattle.std.specs.declared.cmp.Ordering.TheVariants.{Less, Equal, Greater}
use Rattle.std.specs.Ordering.{is_lt, int_cmp, nat_cmp, ordering_then}
use Rattle.std.proofs.lemmas.Bool.{cases_lt, false≢true}
use Rattle.std.proofs.lemmas.Bool.Decides.{nat_tests}
use Rattle.std.proofs.lemmas.Cmp.{int_ranked, ranked}
use Rattle.std.proofs.lemmas.Int.{ints}
use Rattle.std.proofs.lemmas.List.Sorted.{sorted_far, ranks_by}
use Rattle.finite_sets.specs.Order.{Lexicographic}

-- of two integers one is the lesser, or they are equal
pub less_equal_or_greater : (m n : ℤ) → (m <ℤ n) ⊎ ((m ≡ n) ⊎ (n <ℤ m))
less_equal_or_greater m n = grind (arith, ints)

-- the same, told in two
pub at_most_or_greater : (m n : ℤ) → (m ≤ℤ n) ⊎ (n <ℤ m)
at_most_or_greater m n = grind (arith, ints)

-- neither of two equal integers is the greater
pub equal_from_both : (m n : ℤ) → m ≤ℤ n → n ≤ℤ m → m ≡ n
equal_from_both m n p q = omega (arith, ints)

-- where nothing stands before itself by the rest, nothing does so
pub Lexicographic-irreflexive : (x : ℤ) {rest : Type 0} → (rest → ⊥) → Lexicographic x x rest → ⊥
Lexicographic-irreflexive x none (inl less) = omega (arith, ints, less)
Lexicographic-irreflexive x none (inr (same, more)) = none more

-- where the rests follow one another, the orders do
pub Lexicographic-trans : (x y z : ℤ) {P Q R : Type 0} → (P → Q → R) → Lexicographic x y P → Lexicographic y z Q → Lexicographic x z R
Lexicographic-trans x y z join (inl p) (inl q) = inl (omega (arith, ints, p, q))
Lexicographic-trans x y z join (inl p) (inr (same, q)) = inl (omega (arith, ints, p, same))
Lexicographic-trans x y z join (inr (same, p)) (inl q) = inl (omega (arith, ints, same, q))
Lexicographic-trans x y z join (inr (same, p)) (inr (also, q)) = inr (same ∙ also, join p q)

-- a rest that the other implies
pub Lexicographic-map : (x y : ℤ) {P Q : Type 0} → (P → Q) → Lexicographic x y P → Lexicographic x y Q
Lexicographic-map x y f (inl less) = inl less
Lexicographic-map x y f (inr (same, p)) = inr (same, f p)

-- no integer is less than itself
pub less-irreflexive : (x : ℤ) → x <ℤ x → ⊥
less-irreflexive x less = omega (arith, ints)

-- of three integers in order the first is the least
pub less-trans : (x y z : ℤ) → x <ℤ y → y <ℤ z → x <ℤ z
less-trans x y z p q = omega (arith, ints)

-- the same of integers that may be equal
pub at_most-trans : (x y z : ℤ) → x ≤ℤ y → y ≤ℤ z → x ≤ℤ z
at_most-trans x y z p q = omega (arith, ints)

-- a number that does not compare as less is no less
pub int_cmp-not_less : (x y : ℤ) → is_lt (int_cmp y x) ≡ false → x ≤ℤ y
int_cmp-not_less x y fails = by_order (int_cmp y x) refl fails
  where
    by_order : (order : Ordering) → order ≡ int_cmp y x → is_lt order ≡ false → x ≤ℤ y
    by_order Less is fails = absurd (false≢true (sym fails))
    by_order Equal is fails = let same : y ≡ x = int_ranked y x Equal is in omega (arith, ints)
    by_order Greater is fails = let less : x <ℤ y = int_ranked y x Greater is in omega (arith, ints)

-- the same of two keys, of which the first is a number
pub ordering_then-not_less : (x y : ℤ) (rest : Ordering) → is_lt (ordering_then (int_cmp y x) rest) ≡ false → Lexicographic x y (is_lt rest ≡ false)
ordering_then-not_less x y rest fails = by_order (int_cmp y x) refl fails
  where
    by_order : (order : Ordering) → order ≡ int_cmp y x → is_lt (ordering_then order rest) ≡ false → Lexicographic x y (is_lt rest ≡ false)
    by_order Less is fails = absurd (false≢true (sym fails))
    by_order Equal is fails = inr (sym (int_ranked y x Equal is), fails)
    by_order Greater is fails = inl (int_ranked y x Greater is)

-- the same of natural numbers
pub nat_cmp-not_less : (m n : ℕ) → is_lt (nat_cmp m n) ≡ false → n ≤ m
nat_cmp-not_less m n fails = elim (cases_lt m n) [
  | inl less ↦ absurd (false≢true (sym fails ∙ ap is_lt (sym (nat_cmp_is m n Less less))))
  | inr past ↦ past
]

-- the same of two keys, of which the first is a natural number
pub nat_then-not_less : (m n : ℕ) (rest : Ordering) → is_lt (ordering_then (nat_cmp n m) rest) ≡ false → (m < n) ⊎ ((m ≡ n) × (is_lt rest ≡ false))
nat_then-not_less m n rest fails = by_order (nat_cmp n m) refl fails
  where
    by_order : (order : Ordering) → order ≡ nat_cmp n m → is_lt (ordering_then order rest) ≡ false → (m < n) ⊎ ((m ≡ n) × (is_lt rest ≡ false))
    by_order Less is fails = absurd (false≢true (sym fails))
    by_order Equal is fails = inr (sym (ranked n m Equal is), fails)
    by_order Greater is fails = inl (ranked n m Greater is)

-- what is added to both of two natural numbers leaves their order
pub nat_cmp-add : (k m n : ℕ) → nat_cmp (k + m) (k + n) ≡ nat_cmp m n
nat_cmp-add k m n = grind (arith, nat_tests)

-- the first of two keys alone
pub int_then-not_less : (x y : ℤ) (rest : Ordering) → is_lt (ordering_then (int_cmp y x) rest) ≡ false → x ≤ℤ y
int_then-not_less x y rest fails = elim (ordering_then-not_less x y rest fails) [
  | inl less ↦ omega (arith, ints, less)
  | inr both ↦ omega (arith, ints, both.0)
]

-- in a list sorted by a key no later thing compares as less
pub IsSortedByKey-pairs : {X K : Type 0} (key : X → K) (cmp : K → K → Ordering) → IsTotalOrder cmp → (xs : List X)
    → IsSortedByKey key cmp xs → AllPairs (λ a b. is_lt (cmp (key b) (key a)) ≡ false) xs
IsSortedByKey-pairs key cmp total xs sorted = λ i j d less below.
    sorted_far (λ a b. is_lt (cmp (key a) (key b))) (ranks_by total key) xs sorted i j d (omega arith) below

-- the same of a list sorted by the things themselves
pub IsSorted-pairs : {X : Type 0} (cmp : X → X → Ordering) → IsTotalOrder cmp → (xs : List X) → IsSorted cmp xs → AllPairs (λ a b. is_lt (cmp b a) ≡ false) xs
IsSorted-pairs cmp total xs sorted = IsSortedByKey-pairs (λ x. x) cmp total xs sorted
