-- Facts of any two things of a list.
use Rattle.std.proofs.Common.{◌≡◌, ◌≢◌, ◌⊎◌, inl, inr, Bool, true, false, cond, ℕ, zero, suc, ◌<◌, List, [], ◌∷◌, ◌++◌, length, map, filter, get_or}
use Rattle.std.proofs.Common.{refl, sym, ◌∙◌, ap, subst, arith}
use Rattle.std.specs.Prelude.{AllPairs, IsPermutation}
use Rattle.std.specs.List.{swap}
use Rattle.std.proofs.lemmas.Bool.{cases_eq, cases_lt}
use Rattle.std.proofs.lemmas.List.Edits.{swapped_from_swap, length-swap}
use Rattle.std.proofs.lemmas.List.Sorted.{IsPermutation-keeps}
use Rattle.finite_sets.specs.Lists.{In}
use Rattle.finite_sets.proofs.Members.{In-append_cases, In-push_cases, In-filter_source, In-get_or, In-index, In-map, In-map_source}

-- R holds of each thing of a list and each later one: `AllPairs` by recursion
abbrev pub Pairwise : {X : Type 0} → (X → X → Type 0) → List X → Type 0
Pairwise R [] = Unit {0}
Pairwise {X} R (x ∷ xs) = ((y : X) → In y xs → R x y) × Pairwise R xs

-- one more thing at the end
pub Pairwise-push : {X : Type 0} (R : X → X → Type 0) (xs : List X) (y : X) → Pairwise R xs → ((x : X) → In x xs → R x y) → Pairwise R (xs ++ y ∷ [])
Pairwise-push R [] y pairs before = ((λ z here. absurd here), tt)
Pairwise-push R (x ∷ xs) y pairs before = (
  (λ z here. elim (In-push_cases z xs y here) [ inl old ↦ pairs.0 z old | inr new ↦ subst (R x) new (before x (inl refl)) ]),
  Pairwise-push R xs y pairs.1 (λ z here. before z (inr here)),
)

-- two lists one behind the other
pub Pairwise-append : {X : Type 0} (R : X → X → Type 0) (xs ys : List X) → Pairwise R xs → Pairwise R ys
    → ((x y : X) → In x xs → In y ys → R x y) → Pairwise R (xs ++ ys)
Pairwise-append R [] ys first second across = second
Pairwise-append R (x ∷ xs) ys first second across = (
  (λ y here. elim (In-append_cases y xs ys here) [ inl old ↦ first.0 y old | inr new ↦ across x y (inl refl) new ]),
  Pairwise-append R xs ys first.1 second (λ a b p q. across a b (inr p) q),
)

-- the things that pass a test
pub Pairwise-filter : {X : Type 0} (R : X → X → Type 0) (test : X → Bool) (xs : List X) → Pairwise R xs → Pairwise R (filter test xs)
Pairwise-filter R test [] pairs = tt
Pairwise-filter {X} R test (x ∷ xs) pairs =
    let rest = Pairwise-filter R test xs pairs.1 in
    elim (test x) as (λ b. Pairwise R (cond b (x ∷ filter test xs) (filter test xs))) [
      | true ↦ ((λ y here. pairs.0 y (In-filter_source test y xs here)), rest)
      | false ↦ rest
    ]

-- by recursion, and so by places
pub AllPairs-from_Pairwise : {X : Type 0} (R : X → X → Type 0) (xs : List X) → Pairwise R xs → AllPairs R xs
AllPairs-from_Pairwise R [] h i j d less below = absurd (omega arith)
AllPairs-from_Pairwise R (x ∷ xs) h zero zero d less below = absurd (omega arith)
AllPairs-from_Pairwise R (x ∷ xs) h zero (suc j) d less below = h.0 (get_or xs j d) (In-get_or xs j d (omega arith))
AllPairs-from_Pairwise R (x ∷ xs) h (suc i) zero d less below = absurd (omega arith)
AllPairs-from_Pairwise R (x ∷ xs) h (suc i) (suc j) d less below = AllPairs-from_Pairwise R xs h.1 i j d (omega arith) (omega arith)

-- and back
pub Pairwise-from_AllPairs : {X : Type 0} (R : X → X → Type 0) (xs : List X) → AllPairs R xs → Pairwise R xs
Pairwise-from_AllPairs R [] all = tt
Pairwise-from_AllPairs {X} R (x ∷ xs) all = (
  (λ y i. let k = In-index y xs i in subst (R x) (k.1.1 x) (all 0 (suc k.0) x (omega arith) (omega (arith, k.1.0)))),
  Pairwise-from_AllPairs R xs (λ i j d less below. all (suc i) (suc j) d (omega arith) (omega arith)),
)

-- one more thing at the end, by places
pub AllPairs-push : {X : Type 0} (R : X → X → Type 0) (xs : List X) (y : X) → AllPairs R xs → ((x : X) → In x xs → R x y) → AllPairs R (xs ++ y ∷ [])
AllPairs-push R xs y all before = AllPairs-from_Pairwise R (xs ++ y ∷ []) (Pairwise-push R xs y (Pairwise-from_AllPairs R xs all) before)

-- what holds of the images of any two things holds of any two of the image
pub Pairwise-map : {X Y : Type 0} (f : X → Y) (R : Y → Y → Type 0) (xs : List X) → Pairwise (λ a b. R (f a) (f b)) xs → Pairwise R (map f xs)
Pairwise-map f R [] h = tt
Pairwise-map f R (x ∷ xs) h = (
  (λ y i. let s = In-map_source f y xs i in subst (R (f x)) s.1.1 (h.0 s.0 s.1.0)),
  Pairwise-map f R xs h.1,
)

-- what holds of any two of an image holds of the images of any two
pub Pairwise-unmap : {X Y : Type 0} (f : X → Y) (R : Y → Y → Type 0) (xs : List X) → Pairwise R (map f xs) → Pairwise (λ a b. R (f a) (f b)) xs
Pairwise-unmap f R [] h = tt
Pairwise-unmap f R (x ∷ xs) h = ((λ y i. h.0 (f y) (In-map f y xs i)), Pairwise-unmap f R xs h.1)

-- what follows, of things of the list, from what holds of any two
pub Pairwise-within : {X : Type 0} (R S : X → X → Type 0) (xs : List X) → ((x y : X) → In x xs → In y xs → R x y → S x y) → Pairwise R xs → Pairwise S xs
Pairwise-within R S [] follows h = tt
Pairwise-within R S (x ∷ xs) follows h = (
  (λ y here. follows x y (inl refl) (inr here) (h.0 y here)),
  Pairwise-within R S xs (λ a b p q. follows a b (inr p) (inr q)) h.1,
)

-- what comes to stand at place k when those at i and j change places
abbrev ComesFrom : ℕ → ℕ → ℕ → ℕ → Type 0
ComesFrom i j k from = ((k ≡ i) × (from ≡ j)) ⊎ (((k ≡ j) × (from ≡ i)) ⊎ ((k ≢ i) × (k ≢ j) × (from ≡ k)))

from_two_places : (i j k l from from' : ℕ) → ComesFrom i j k from → ComesFrom i j l from' → k < l → from ≢ from'
from_two_places i j k l from from' (inl p) (inl q) h e = let p0 : k ≡ i = p.0 in let q0 : l ≡ i = q.0 in omega arith
from_two_places i j k l from from' (inl p) (inr (inl q)) h e = let p0 : k ≡ i = p.0 in let p1 : from ≡ j = p.1 in let q0 : l ≡ j = q.0 in
    let q1 : from' ≡ i = q.1 in omega arith
from_two_places i j k l from from' (inl p) (inr (inr q)) h e = q.1 (sym q.2 ∙ sym e ∙ p.1)
from_two_places i j k l from from' (inr (inl p)) (inl q) h e = let p0 : k ≡ j = p.0 in let p1 : from ≡ i = p.1 in let q0 : l ≡ i = q.0 in
    let q1 : from' ≡ j = q.1 in omega arith
from_two_places i j k l from from' (inr (inl p)) (inr (inl q)) h e = let p0 : k ≡ j = p.0 in let q0 : l ≡ j = q.0 in omega arith
from_two_places i j k l from from' (inr (inl p)) (inr (inr q)) h e = q.0 (sym q.2 ∙ sym e ∙ p.1)
from_two_places i j k l from from' (inr (inr p)) (inl q) h e = p.1 (sym p.2 ∙ e ∙ q.1)
from_two_places i j k l from from' (inr (inr p)) (inr (inl q)) h e = p.0 (sym p.2 ∙ e ∙ q.1)
from_two_places i j k l from from' (inr (inr p)) (inr (inr q)) h e = let p2 : from ≡ k = p.2 in let q2 : from' ≡ l = q.2 in omega arith

-- the place in a list that what stands at k after an exchange comes from
record Origin {X : Type 0} (xs : List X) (i j k : ℕ) (d : X) : Type 0 where
  from : ℕ
  in_list : from < length xs
  value : get_or (swap xs i j) k d ≡ get_or xs from d
  moved : ComesFrom i j k from

origin : {X : Type 0} (xs : List X) (i j k : ℕ) (d : X) → i < length xs → j < length xs → k < length xs → Origin xs i j k d
origin xs i j k d p q h =
    let s = swapped_from_swap xs (swap xs i j) i j d p q refl in
    elim (cases_eq k i) [
      | inl e ↦ record { from = j; in_list = q; value = ap (λ (m : ℕ). get_or (swap xs i j) m d) e ∙ s.0; moved = inl (e, refl) }
      | inr n ↦ elim (cases_eq k j) [
        | inl e ↦ record { from = i; in_list = p; value = ap (λ (m : ℕ). get_or (swap xs i j) m d) e ∙ s.1; moved = inr (inl (e, refl)) }
        | inr m ↦ record { from = k; in_list = h; value = s.2 k n m; moved = inr (inr (n, m, refl)) }
      ]
    ]

-- a fact of any two things of a list, whichever comes first, still holds when two of them change places
AllPairs-swap : {X : Type 0} (R : X → X → Type 0) → ((a b : X) → R a b → R b a) → (xs : List X) (i j : ℕ) → i < length xs → j < length xs
    → AllPairs R xs → AllPairs R (swap xs i j)
AllPairs-swap {X} R symmetric xs i j p q all = λ k l d h m.
    let below : l < length xs = omega (arith, length-swap xs i j, m) in
    let a = origin xs i j k d p q (omega arith) in
    let b = origin xs i j l d p q below in
    let apart = from_two_places i j k l a.from b.from a.moved b.moved h in
    let related : R (get_or xs a.from d) (get_or xs b.from d) =
    elim (cases_lt a.from b.from) [
      | inl less ↦ all a.from b.from d less b.in_list
      | inr more ↦ symmetric (get_or xs b.from d) (get_or xs a.from d) (all b.from a.from d (omega arith) a.in_list)
    ] in
    subst (λ (x : X). R x (get_or (swap xs i j) l d)) (sym a.value) (subst (λ (y : X). R (get_or xs a.from d) y) (sym b.value) related)

-- and in any other order of the list
pub AllPairs-permutation : {X : Type 0} (R : X → X → Type 0) → ((a b : X) → R a b → R b a) → (xs ys : List X) → IsPermutation xs ys → AllPairs R xs
    → AllPairs R ys
AllPairs-permutation R symmetric xs ys p all = IsPermutation-keeps xs (AllPairs R) all (AllPairs-swap R symmetric) ys p
