-- What stands in the images of lists, and what stands there once.
use Rattle.std.proofs.Common.{◌≡◌, ◌≢◌, Bool, true, false, cond, List, [], ◌∷◌, inl, inr, map, filter, refl, sym, ◌∙◌, ap, subst}
use Rattle.std.specs.Prelude.{IsPermutation, reverse}
use Rattle.std.specs.List.{flat_map}
use Rattle.std.proofs.lemmas.List.Sorted.{IsPermutation-reverse, IsPermutation-sym}
use Rattle.finite_sets.specs.Lists.{In, Distinct}
use Rattle.finite_sets.proofs.Members.{In-append_cases, In-append_left, In-append_right, In-map, In-map_source, In-filter_source, In-permutation}
use Rattle.finite_sets.proofs.Distincts.{Distinct-append, Distinct-places, Distinct-from_places}
use Rattle.finite_sets.proofs.Pairs.{Pairwise, AllPairs-permutation}

-- what stands in the list of a thing stands in all the lists one behind the other
pub In-flat_map : {X Y : Type 0} (f : X → List Y) (x : X) (y : Y) (xs : List X) → In x xs → In y (f x) → In y (flat_map f xs)
In-flat_map f x y [] among here = absurd among
In-flat_map {X} f x y (z ∷ zs) (inl same) here =
    let P : X → Type 0 = λ a. In y (f a) in In-append_left y (f z) (flat_map f zs) (subst P (sym same) here)
In-flat_map f x y (z ∷ zs) (inr later) here = In-append_right y (f z) (flat_map f zs) (In-flat_map f x y zs later here)

-- what stands in lists one behind the other stands in the list of one thing
pub In-flat_map_source : {X Y : Type 0} (f : X → List Y) (y : Y) (xs : List X) → In y (flat_map f xs) → (x : X) × (In x xs × In y (f x))
In-flat_map_source f y [] among = absurd among
In-flat_map_source f y (x ∷ xs) among = elim (In-append_cases y (f x) (flat_map f xs) among) [
  | inl here ↦ (x, (inl refl, here))
  | inr later ↦ let source = In-flat_map_source f y xs later in (source.0, (inr source.1.0, source.1.1))
]

-- maps that agree on a list have one image of it
pub map-same : {X Y : Type 0} (f g : X → Y) (xs : List X) → ((x : X) → In x xs → f x ≡ g x) → map f xs ≡ map g xs
map-same f g [] same = refl
map-same f g (x ∷ xs) same =
    let first = same x (inl refl) in let rest = map-same f g xs (λ y later. same y (inr later)) in (λ i. first i ∷ rest i)

-- a map that leaves each thing of a list as it is
pub map-fixed : {X : Type 0} (f : X → X) (xs : List X) → ((x : X) → In x xs → f x ≡ x) → map f xs ≡ xs
map-fixed f [] fixed = refl
map-fixed f (x ∷ xs) fixed =
    let first = fixed x (inl refl) in let rest = map-fixed f xs (λ y later. fixed y (inr later)) in (λ i. first i ∷ rest i)

-- what stands in a list stands in it turned round
pub In-reverse : {X : Type 0} (x : X) (xs : List X) → In x xs → In x (reverse xs)
In-reverse x xs here = In-permutation x xs (reverse xs) (IsPermutation-reverse xs) here

-- what stands in a list turned round stands in the list
pub In-reverse_source : {X : Type 0} (x : X) (xs : List X) → In x (reverse xs) → In x xs
In-reverse_source x xs here = In-permutation x (reverse xs) xs (IsPermutation-sym xs (reverse xs) (IsPermutation-reverse xs)) here

-- lists of which no two have anything in common, and none has a thing twice, one behind the other
pub Distinct-flat_map : {X Y : Type 0} (f : X → List Y) (xs : List X) → Pairwise (λ a b. (y : Y) → In y (f a) → In y (f b) → ⊥) xs
    → ((x : X) → In x xs → Distinct (f x)) → Distinct (flat_map f xs)
Distinct-flat_map f [] apart each = tt
Distinct-flat_map f (x ∷ xs) apart each =
    Distinct-append (f x) (flat_map f xs) (each x (inl refl)) (Distinct-flat_map f xs apart.1 (λ y here. each y (inr here)))
    (λ y here there. let source = In-flat_map_source f y xs there in apart.0 source.0 source.1.0 y here source.1.1)

-- things whose images differ differ
pub Distinct-unmap : {X Y : Type 0} (f : X → Y) (xs : List X) → Distinct (map f xs) → Distinct xs
Distinct-unmap f [] distinct = tt
Distinct-unmap f (x ∷ xs) distinct = ((λ here. distinct.0 (In-map f x xs here)), Distinct-unmap f xs distinct.1)

-- where images differ, those of the things that pass a test do
pub Distinct-map_filter : {X Y : Type 0} (f : X → Y) (test : X → Bool) (xs : List X) → Distinct (map f xs) → Distinct (map f (filter test xs))
Distinct-map_filter f test [] distinct = tt
Distinct-map_filter {X} {Y} f test (x ∷ xs) distinct =
    let rest = Distinct-map_filter f test xs distinct.1 in
    let P : Y → Type 0 = λ y. In y (map f xs) in
    elim (test x) as (λ b. Distinct (map f (cond b (x ∷ filter test xs) (filter test xs)))) [
      | true ↦ (
        (λ among. let source = In-map_source f (f x) (filter test xs) among in
            distinct.0 (subst P source.1.1 (In-map f source.0 xs (In-filter_source test source.0 xs source.1.0)))),
        rest,
      )
      | false ↦ rest
    ]

-- where images differ, things of the list with one image are one
pub one_from_Distinct : {X Y : Type 0} (f : X → Y) (xs : List X) (a b : X) → Distinct (map f xs) → In a xs → In b xs → f a ≡ f b → a ≡ b
one_from_Distinct f [] a b distinct p q same = absurd p
one_from_Distinct f (x ∷ xs) a b distinct (inl p) (inl q) same = sym p ∙ q
one_from_Distinct {X} {Y} f (x ∷ xs) a b distinct (inl p) (inr q) same =
    let P : Y → Type 0 = λ y. In y (map f xs) in absurd (distinct.0 (subst P (sym same ∙ ap f (sym p)) (In-map f b xs q)))
one_from_Distinct {X} {Y} f (x ∷ xs) a b distinct (inr p) (inl q) same =
    let P : Y → Type 0 = λ y. In y (map f xs) in absurd (distinct.0 (subst P (same ∙ ap f (sym q)) (In-map f a xs p)))
one_from_Distinct f (x ∷ xs) a b distinct (inr p) (inr q) same = one_from_Distinct f xs a b distinct.1 p q same

-- a list in another order has nothing twice where it had nothing twice
pub Distinct-permutation : {X : Type 0} (xs ys : List X) → IsPermutation xs ys → Distinct xs → Distinct ys
Distinct-permutation {X} xs ys moved distinct = Distinct-from_places ys (λ i j d less below.
    AllPairs-permutation (λ (a b : X). a ≢ b) (λ a b apart e. apart (sym e)) xs ys moved
    (λ k l e up last. Distinct-places xs k l e distinct up last) i j d less below)
