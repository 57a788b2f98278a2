-- Lists each of whose things has parts, and sums over the one thing that passes a test.
use Rattle.own_record_laws.proofs.Common.{◌≡◌, ℤ, pos, Bool, true, cond, List, [], ◌∷◌, inl, inr, refl, sym, ◌∙◌, ap, subst, arith, flat_map, ints}
use Rattle.own_record_laws.proofs.Common.{In, Distinct, sum_on, In-flat_map}
use Rattle.std.proofs.lemmas.Bool.{cases_Bool}
use Rattle.full_names.proofs.FiniteSets.Distincts.{Distinct-append_apart, Distinct-append_right}
use Rattle.full_names.proofs.FiniteSets.Sums.{sum_on-nothing}

-- where no part stands twice, things that share a part are one
pub one_owner : {X Y : Type 0} (parts : X → List Y) (xs : List X) (y : Y) (a b : X) → Distinct (flat_map parts xs) → In a xs → In b xs → In y (parts a)
    → In y (parts b) → a ≡ b
one_owner parts [] y a b distinct p q h k = absurd p
one_owner parts (x ∷ xs) y a b distinct (inl p) (inl q) h k = sym p ∙ q
one_owner {X} parts (x ∷ xs) y a b distinct (inl p) (inr q) h k =
    let P : X → Type 0 = λ z. In y (parts z) in
    absurd (Distinct-append_apart (parts x) (flat_map parts xs) distinct y (subst P (sym p) h) (In-flat_map parts b y xs q k))
one_owner {X} parts (x ∷ xs) y a b distinct (inr p) (inl q) h k =
    let P : X → Type 0 = λ z. In y (parts z) in
    absurd (Distinct-append_apart (parts x) (flat_map parts xs) distinct y (subst P (sym q) k) (In-flat_map parts a y xs p h))
one_owner parts (x ∷ xs) y a b distinct (inr p) (inr q) h k = one_owner parts xs y a b (Distinct-append_right (parts x) (flat_map parts xs) distinct) p q h k

-- and things with a part each stand once
pub distinct_owners : {X Y : Type 0} (parts : X → List Y) (one : X → Y) (xs : List X) → ((x : X) → In (one x) (parts x)) → Distinct (flat_map parts xs)
    → Distinct xs
distinct_owners parts one [] has distinct = tt
distinct_owners parts one (x ∷ xs) has distinct = (
  λ here. Distinct-append_apart (parts x) (flat_map parts xs) distinct (one x) (has x) (In-flat_map parts x (one x) xs here (has x)),
  distinct_owners parts one xs has (Distinct-append_right (parts x) (flat_map parts xs) distinct),
)

-- what the one thing that passes a test adds
pub sum_on-only : {X : Type 0} (test : X → Bool) (w : X → ℤ) (x : X) (xs : List X) → Distinct xs → In x xs → test x ≡ true
    → ((y : X) → In y xs → test y ≡ true → y ≡ x) → sum_on (λ y. cond (test y) (w y) (pos 0)) xs ≡ w x
sum_on-only test w x [] distinct here passes only = absurd here
sum_on-only {X} test w x (z ∷ zs) distinct (inl here) passes only =
    let P : X → Type 0 = λ a. In a zs in
    let none : (y : X) → In y zs → cond (test y) (w y) (pos 0) ≡ pos 0 = λ y later. elim (cases_Bool (test y)) [
      | inl yes_y ↦ absurd (distinct.0 (subst P (only y (inr later) yes_y ∙ sym here) later))
      | inr no_y ↦ ap (λ (b : Bool). cond b (w y) (pos 0)) no_y
    ] in
    let first : cond (test z) (w z) (pos 0) ≡ w x = ap (λ (a : X). cond (test a) (w a) (pos 0)) here ∙ ap (λ (b : Bool). cond b (w x) (pos 0)) passes in
    let rest = sum_on-nothing (λ y. cond (test y) (w y) (pos 0)) zs none in
    omega (arith, ints, first, rest)
sum_on-only {X} test w x (z ∷ zs) distinct (inr here) passes only =
    let P : X → Type 0 = λ a. In a zs in
    let first : cond (test z) (w z) (pos 0) ≡ pos 0 = elim (cases_Bool (test z)) [
      | inl yes_z ↦ absurd (distinct.0 (subst P (sym (only z (inl refl) yes_z)) here))
      | inr no_z ↦ ap (λ (b : Bool). cond b (w z) (pos 0)) no_z
    ] in
    let rest = sum_on-only test w x zs distinct.1 here passes (λ y later. only y (inr later)) in
    omega (arith, ints, first, rest)
