-- What stands at places of lists: after one more at the end, and after a write.
use Rattle.flatten.proofs.Common.{◌≡◌, ◌≢◌, ℕ, zero, suc, ◌+◌, ◌<◌, List, [], ◌∷◌, ◌++◌, length, map, get_or, take, refl, sym, ◌∙◌, ap, subst, arith}
use Rattle.flatten.proofs.Common.{inl, inr, ◌⊎◌, length-append, Some, slice_get, option_map, set, take_more, map_more, length-map, append-nil}
use Rattle.flatten.proofs.Common.{take_all, cases_eq, slice_get-get_or, slice_get_read, slice_get_within, slice_get-map, same_Some, In, In-get_or}
use Rattle.std.specs.List.{refill}
use Rattle.std.proofs.lemmas.List.{drop_all}
use Rattle.name_classes.proofs.ListLaws.{slice_get-push_both}
use Rattle.finite_sets.proofs.Places.{slice_get-In}
use Rattle.flatten.specs.steps.Spots.{AreAlong}

-- what stands in a list has a place there
pub place_of : {X : Type 0} (x : X) (xs : List X) → In x xs → (k : ℕ) × ((k < length xs) × (slice_get xs k ≡ Some x))
place_of x xs here = let found = slice_get-In x xs here in (found.0, (slice_get_within xs found.0 x found.1, found.1))

-- one more of both lists
pub AreAlong-push : {X Y : Type 0} (R : X → Y → Type 0) (xs : List X) (ys : List Y) (x : X) (y : Y) → AreAlong R xs ys → R x y
    → AreAlong R (xs ++ x ∷ []) (ys ++ y ∷ [])
AreAlong-push {X} {Y} R xs ys x y along last = record {
  long = length-append ys (y ∷ []) ∙ ap (λ n. n + 1) along.long ∙ sym (length-append xs (x ∷ []));
  each = slice_get-push_both R xs ys x y along.long along.each last;
}

-- one step of a loop along a list that pushes what goes with each thing
pub AreAlong-more : {X Y Z : Type 0} (R : Z → Y → Type 0) (f : X → Z) (xs : List X) (ys : List Y) (i : ℕ) (y : Y) (d : X)
    → AreAlong R (map f (take i xs)) ys → i < length xs → R (f (get_or xs i d)) y → AreAlong R (map f (take (i + 1) xs)) (ys ++ y ∷ [])
AreAlong-more {X} {Y} {Z} R f xs ys i y d along inside last =
    let P : List Z → Type 0 = λ l. AreAlong R l (ys ++ y ∷ []) in
    subst P (sym (map_more f xs i d inside)) (AreAlong-push R (map f (take i xs)) ys (f (get_or xs i d)) y along last)

-- the same where the things themselves are
pub AreAlong-next : {X Y : Type 0} (R : X → Y → Type 0) (xs : List X) (ys : List Y) (i : ℕ) (y : Y) (d : X) → AreAlong R (take i xs) ys
    → i < length xs → R (get_or xs i d) y → AreAlong R (take (i + 1) xs) (ys ++ y ∷ [])
AreAlong-next {X} {Y} R xs ys i y d along inside last =
    let P : List X → Type 0 = λ l. AreAlong R l (ys ++ y ∷ []) in
    subst P (sym (take_more xs i d inside)) (AreAlong-push R (take i xs) ys (get_or xs i d) y along last)

-- what is read at a place stands in the list
pub In-read : {X : Type 0} (xs : List X) (i : ℕ) (x : X) → i < length xs → x ≡ get_or xs i x → In x xs
In-read {X} xs i x inside is = let P : X → Type 0 = λ z. In z xs in subst P (sym is) (In-get_or xs i x inside)

-- what stands at a place after a write: what was written, or what stood there
pub place_set_cases : {X : Type 0} (xs : List X) (i : ℕ) (y x : X) (k : ℕ) → slice_get (set xs i y) k ≡ Some x
    → (slice_get xs k ≡ Some x) ⊎ ((k ≡ i) × (y ≡ x))
place_set_cases [] i y x k at = inl at
place_set_cases (z ∷ zs) zero y x zero at = inr (refl, same_Some y x at)
place_set_cases (z ∷ zs) zero y x (suc k) at = inl at
place_set_cases (z ∷ zs) (suc i) y x zero at = inl at
place_set_cases (z ∷ zs) (suc i) y x (suc k) at = elim (place_set_cases zs i y x k at) [ inl h ↦ inl h | inr h ↦ inr (omega (arith, h.0), h.1) ]

-- what is written stands there
pub place_set : {X : Type 0} (xs : List X) (i : ℕ) (y : X) → i < length xs → slice_get (set xs i y) i ≡ Some y
place_set [] i y inside = absurd (omega (arith, inside))
place_set (z ∷ zs) zero y inside = refl
place_set (z ∷ zs) (suc i) y inside = place_set zs i y (omega (arith, inside))

-- and all else stays
pub place_set_other : {X : Type 0} (xs : List X) (i : ℕ) (y : X) (k : ℕ) → k ≢ i → slice_get (set xs i y) k ≡ slice_get xs k
place_set_other [] i y k apart = refl
place_set_other (z ∷ zs) zero y zero apart = absurd (apart refl)
place_set_other (z ∷ zs) zero y (suc k) apart = refl
place_set_other (z ∷ zs) (suc i) y zero apart = refl
place_set_other (z ∷ zs) (suc i) y (suc k) apart = place_set_other zs i y k (λ same. apart (omega (arith, same)))

-- what is written again where it stood stands everywhere that it did
pub place_set_again : {X : Type 0} (xs : List X) (i : ℕ) (y : X) (k : ℕ) → slice_get xs k ≡ Some y → slice_get (set xs i y) k ≡ Some y
place_set_again xs i y k at = elim (cases_eq k i) [
  | inl same ↦
      (let within = slice_get_within xs k y at in
      ap (slice_get (set xs i y)) same ∙ place_set xs i y (omega (arith, within, same)))
  | inr apart ↦ place_set_other xs i y k apart ∙ at
]

-- what stands at one place of two related lists
pub AreAlong-at : {X Y Z : Type 0} (R : Z → Y → Type 0) (f : X → Z) (xs : List X) (ys : List Y) → AreAlong R (map f xs) ys → (at : ℕ)
    → at < length xs → (x : X) → x ≡ get_or xs at x → (d : Y) → R (f x) (get_or ys at d)
AreAlong-at R f xs ys along at inside x is d =
    let long = along.long in
    let many = length-map xs f in
    along.each at (f x) (get_or ys at d)
    (slice_get-map f xs at ∙ ap (option_map f) (slice_get_read xs (length xs) at x refl inside is))
    (slice_get-get_or ys at d (omega (arith, inside, long, many)))

-- a vector has the items of a slice of it that was lent whole
pub refilled : {X : Type 0} (n : ℕ) (xs ws : List X) → n ≡ length ws → length ws ≡ length xs → refill n xs ws ≡ ws
refilled {X} n xs ws many long =
    ap (λ (l : List X). take n (ws ++ l)) (drop_all (length ws) xs (omega (arith, long))) ∙ ap (take n) (append-nil ws)
    ∙ take_all n ws (omega (arith, many))

-- what is read at one place of two related lists
pub AreAlong-read : {X Y : Type 0} (R : X → Y → Type 0) (xs : List X) (ys : List Y) → AreAlong R xs ys → (at : ℕ) → at < length xs → (x : X)
    → x ≡ get_or xs at x → (y : Y) → y ≡ get_or ys at y → R x y
AreAlong-read R xs ys along at inside x is y also =
    let long = along.long in
    along.each at x y (slice_get_read xs (length xs) at x refl inside is) (slice_get_read ys (length ys) at y refl (omega (arith, inside, long)) also)
