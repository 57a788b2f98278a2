-- What stands in a list: laws of `In`.
use Rattle.std.proofs.Common.{◌≡◌, ℕ, zero, suc, ◌<◌, Bool, true, false, cond, List, [], ◌∷◌, ◌++◌, ◌⊎◌, ◌≢◌}
use Rattle.std.proofs.Common.{inl, inr, map, filter, length, get_or, refl, sym, ◌∙◌, ap, subst, arith}
use Rattle.std.proofs.lemmas.Bool.{cases_Bool}
use Rattle.std.specs.Prelude.{IsPermutation}
use Rattle.std.specs.List.{Contains}
use Rattle.std.proofs.lemmas.List.Sorted.{Contains-permutation}
use Rattle.finite_sets.specs.Lists.{In}

-- what stands in the first list stands in both
pub In-append_left : {X : Type 0} (x : X) (xs ys : List X) → In x xs → In x (xs ++ ys)
In-append_left x [] ys h = absurd h
In-append_left x (a ∷ xs) ys (inl e) = inl e
In-append_left x (a ∷ xs) ys (inr h) = inr (In-append_left x xs ys h)

-- what stands in the second list stands in both
pub In-append_right : {X : Type 0} (x : X) (xs ys : List X) → In x ys → In x (xs ++ ys)
In-append_right x [] ys h = h
In-append_right x (a ∷ xs) ys h = inr (In-append_right x xs ys h)

-- what stands in both stands in one of them
pub In-append_cases : {X : Type 0} (x : X) (xs ys : List X) → In x (xs ++ ys) → In x xs ⊎ In x ys
In-append_cases x [] ys h = inr h
In-append_cases x (a ∷ xs) ys (inl e) = inl (inl e)
In-append_cases x (a ∷ xs) ys (inr h) = elim (In-append_cases x xs ys h) [ inl k ↦ inl (inr k) | inr k ↦ inr k ]

-- the one added at the end, or one from before
pub In-push_cases : {X : Type 0} (x : X) (xs : List X) (y : X) → In x (xs ++ y ∷ []) → In x xs ⊎ (y ≡ x)
In-push_cases x xs y h = elim (In-append_cases x xs (y ∷ []) h) [ inl k ↦ inl k | inr k ↦ elim k [ inl e ↦ inr e | inr n ↦ absurd n ] ]

-- the one added at the end stands there
pub In-push : {X : Type 0} (xs : List X) (y : X) → In y (xs ++ y ∷ [])
In-push xs y = In-append_right y xs (y ∷ []) (inl refl)

-- the image of what stands in a list stands in the image
pub In-map : {X Y : Type 0} (f : X → Y) (x : X) (xs : List X) → In x xs → In (f x) (map f xs)
In-map f x [] h = absurd h
In-map f x (a ∷ xs) (inl e) = inl (ap f e)
In-map f x (a ∷ xs) (inr h) = inr (In-map f x xs h)

-- what stands in an image is the image of what stands in the list
pub In-map_source : {X Y : Type 0} (f : X → Y) (y : Y) (xs : List X) → In y (map f xs) → (x : X) × (In x xs × (f x ≡ y))
In-map_source f y [] h = absurd h
In-map_source f y (a ∷ xs) (inl e) = (a, (inl refl, e))
In-map_source f y (a ∷ xs) (inr h) = let r = In-map_source f y xs h in (r.0, (inr r.1.0, r.1.1))

-- what stands in a list and passes the test is kept
pub In-filter : {X : Type 0} (test : X → Bool) (x : X) (xs : List X) → In x xs → test x ≡ true → In x (filter test xs)
In-filter test x [] h t = absurd h
In-filter {X} test x (a ∷ xs) (inl e) t =
    let P : Bool → Type 0 = λ b. In x (cond b (a ∷ filter test xs) (filter test xs)) in
    subst P (sym (ap test e ∙ t)) (inl e)
In-filter {X} test x (a ∷ xs) (inr h) t =
    let k = In-filter test x xs h t in
    elim (test a) as (λ b. In x (cond b (a ∷ filter test xs) (filter test xs))) [ true ↦ inr k | false ↦ k ]

-- what a filter keeps stood in the list
pub In-filter_source : {X : Type 0} (test : X → Bool) (x : X) (xs : List X) → In x (filter test xs) → In x xs
In-filter_source test x [] h = absurd h
In-filter_source {X} test x (a ∷ xs) h =
    (elim (test a) as (λ b. In x (cond b (a ∷ filter test xs) (filter test xs)) → (a ≡ x) ⊎ In x xs) [
      | true ↦ elim [ inl e ↦ inl e | inr k ↦ inr (In-filter_source test x xs k) ]
      | false ↦ (λ k. inr (In-filter_source test x xs k))
    ]) h

-- what a filter keeps passes the test
pub In-filter_passes : {X : Type 0} (test : X → Bool) (x : X) (xs : List X) → In x (filter test xs) → test x ≡ true
In-filter_passes test x [] h = absurd h
In-filter_passes {X} test x (a ∷ xs) h =
    let P : Bool → Type 0 = λ b. In x (cond b (a ∷ filter test xs) (filter test xs)) in
    elim (cases_Bool (test a)) [
      | inl passes ↦ elim (subst P passes h) [ inl e ↦ ap test (sym e) ∙ passes | inr k ↦ In-filter_passes test x xs k ]
      | inr fails ↦ In-filter_passes test x xs (subst P fails h)
    ]

-- what is at a place of a list stands in it
pub In-get_or : {X : Type 0} (xs : List X) (k : ℕ) (d : X) → k < length xs → In (get_or xs k d) xs
In-get_or [] k d h = absurd (omega arith)
In-get_or (x ∷ xs) zero d h = inl refl
In-get_or (x ∷ xs) (suc k) d h = inr (In-get_or xs k d (omega arith))

-- the index of something that stands in a list
pub In-index : {X : Type 0} (x : X) (xs : List X) → In x xs → (k : ℕ) × ((k < length xs) × ((d : X) → get_or xs k d ≡ x))
In-index x [] h = absurd h
In-index x (a ∷ xs) (inl e) = (0, (omega arith, (λ d. e)))
In-index x (a ∷ xs) (inr h) = let r = In-index x xs h in (suc r.0, (omega (arith, r.1.0), (λ d. r.1.1 d)))

-- the same in std's word, by a place
pub Contains-from_In : {X : Type 0} (x : X) (xs : List X) → In x xs → Contains xs x
Contains-from_In x xs h = let r = In-index x xs h in (r.0, r.1.0, r.1.1 x)

-- and back
pub In-from_Contains : {X : Type 0} (x : X) (xs : List X) → Contains xs x → In x xs
In-from_Contains {X} x xs h = let P : X → Type 0 = λ y. In y xs in subst P h.2 (In-get_or xs h.0 x h.1)

-- a permutation of a list has the same things
pub In-permutation : {X : Type 0} (x : X) (xs ys : List X) → IsPermutation xs ys → In x xs → In x ys
In-permutation x xs ys moved here = In-from_Contains x ys (Contains-permutation xs ys x moved (Contains-from_In x xs here))

-- a list that has a thing is not empty
pub In-some : {X : Type 0} (x : X) (xs : List X) → In x xs → xs ≢ []
In-some x [] i = absurd i
In-some x (y ∷ xs) i = λ e. absurd (cc)
