-- What stands at a place of a list: laws of `slice_get`.
use Rattle.std.proofs.Common.{◌≡◌, ◌≢◌, ℕ, zero, suc, ◌+◌, ◌<◌, ◌⊎◌, inl, inr, Some, List, [], ◌∷◌, ◌++◌, length, map, take, drop, refl, sym, ◌∙◌}
use Rattle.std.proofs.Common.{ap, subst, arith}
use Rattle.std.specs.Prelude.{All, slice_get, slice_set}
use Rattle.std.proofs.lemmas.List.{take-append-drop, take_more}
use Rattle.std.proofs.lemmas.Option.{get_or_from_slice_get, slice_get_within}
use Rattle.finite_sets.specs.Lists.{In, Distinct}
use Rattle.finite_sets.proofs.Members.{In-append_cases, In-append_left, In-append_right}
use Rattle.finite_sets.proofs.Searches.{drop_split}

-- what stands at a place of a list stands in it
pub In-slice_get : {X : Type 0} (xs : List X) (k : ℕ) (x : X) → slice_get xs k ≡ Some x → In x xs
In-slice_get [] k x is = cc
In-slice_get (y ∷ ys) zero x is = inl cc
In-slice_get (y ∷ ys) (suc k) x is = inr (In-slice_get ys k x is)

-- what stands in a list stands at a place of it
pub slice_get-In : {X : Type 0} (x : X) (xs : List X) → In x xs → (k : ℕ) × (slice_get xs k ≡ Some x)
slice_get-In x [] here = absurd here
slice_get-In x (y ∷ ys) (inl same) = (0, ap Some same)
slice_get-In x (y ∷ ys) (inr later) = let found = slice_get-In x ys later in (suc found.0, found.1)

-- at each place below the length stands something
pub slice_get-below : {X : Type 0} (xs : List X) (k : ℕ) → k < length xs → (x : X) × (slice_get xs k ≡ Some x)
slice_get-below [] k below = absurd (omega arith)
slice_get-below (x ∷ xs) zero below = (x, refl)
slice_get-below (x ∷ xs) (suc k) below = slice_get-below xs k (omega arith)

-- one thing stands at a place
pub slice_get-one : {X : Type 0} (xs : List X) (k : ℕ) (x y : X) → slice_get xs k ≡ Some x → slice_get xs k ≡ Some y → x ≡ y
slice_get-one xs k x y is other = cc

-- what holds of all of a list holds of what stands at a place of it
pub All-slice_get : {X : Type 0} (P : X → Type 0) (xs : List X) (k : ℕ) (x : X) → All P xs → slice_get xs k ≡ Some x → P x
All-slice_get P xs k x all is = subst P (get_or_from_slice_get xs k x x is) (all k x (slice_get_within xs k x is))

-- what stands at a place stands there when a list is put behind
pub slice_get-append_left : {X : Type 0} (xs ys : List X) (k : ℕ) (x : X) → slice_get xs k ≡ Some x → slice_get (xs ++ ys) k ≡ Some x
slice_get-append_left [] ys k x is = cc
slice_get-append_left (z ∷ zs) ys zero x is = is
slice_get-append_left (z ∷ zs) ys (suc k) x is = slice_get-append_left zs ys k x is

-- at a place of the first of two lists stands in both what stands there in the first
pub slice_get-append_front : {X : Type 0} (xs ys : List X) (k : ℕ) → k < length xs → slice_get (xs ++ ys) k ≡ slice_get xs k
slice_get-append_front [] ys k below = absurd (omega arith)
slice_get-append_front (x ∷ xs) ys zero below = refl
slice_get-append_front (x ∷ xs) ys (suc k) below = slice_get-append_front xs ys k (omega arith)

-- the places of the second list come behind those of the first
pub slice_get-append_right : {X : Type 0} (xs ys : List X) (k n : ℕ) → n ≡ length xs + k → slice_get (xs ++ ys) n ≡ slice_get ys k
slice_get-append_right [] ys k n is = ap (slice_get ys) (omega arith)
slice_get-append_right (x ∷ xs) ys k zero is = absurd (omega (arith, is))
slice_get-append_right (x ∷ xs) ys k (suc n) is = slice_get-append_right xs ys k n (omega (arith, is))

-- what stands at a place of two lists stands in the first, or behind it at a place of the second
pub slice_get-append_cases : {X : Type 0} (xs ys : List X) (k : ℕ) (x : X) → slice_get (xs ++ ys) k ≡ Some x
    → (slice_get xs k ≡ Some x) ⊎ ((j : ℕ) × (k ≡ length xs + j) × (slice_get ys j ≡ Some x))
slice_get-append_cases [] ys k x is = inr (k, omega arith, is)
slice_get-append_cases (z ∷ zs) ys zero x is = inl is
slice_get-append_cases (z ∷ zs) ys (suc k) x is = elim (slice_get-append_cases zs ys k x is) [
  | inl first ↦ inl first
  | inr second ↦ inr (second.0, omega (arith, second.1), second.2)
]

-- the one added at the end stands at the place behind the rest
pub slice_get-push_new : {X : Type 0} (xs : List X) (y : X) → slice_get (xs ++ y ∷ []) (length xs) ≡ Some y
slice_get-push_new [] y = refl
slice_get-push_new (x ∷ xs) y = slice_get-push_new xs y

-- what stands at a place of a list with one more at the end stood there before, or is that one
pub slice_get-push_cases : {X : Type 0} (xs : List X) (y x : X) (k : ℕ) → slice_get (xs ++ y ∷ []) k ≡ Some x
    → (slice_get xs k ≡ Some x) ⊎ ((k ≡ length xs) × (y ≡ x))
slice_get-push_cases [] y x zero is = inr (refl, cc)
slice_get-push_cases [] y x (suc k) is = cc
slice_get-push_cases (z ∷ zs) y x zero is = inl is
slice_get-push_cases (z ∷ zs) y x (suc k) is = elim (slice_get-push_cases zs y x k is) [
  | inl old ↦ inl old
  | inr new ↦ inr (ap suc new.0, new.1)
]

-- what stands at a place of an image is the image of what stands there in the list
pub slice_get-map_source : {X Y : Type 0} (f : X → Y) (xs : List X) (k : ℕ) (y : Y) → slice_get (map f xs) k ≡ Some y
    → (x : X) × ((slice_get xs k ≡ Some x) × (f x ≡ y))
slice_get-map_source f [] k y is = cc
slice_get-map_source f (x ∷ xs) zero y is = (x, (refl, cc))
slice_get-map_source f (x ∷ xs) (suc k) y is = slice_get-map_source f xs k y is

-- the image of what stands at a place stands there in the image
pub slice_get-map_there : {X Y : Type 0} (f : X → Y) (xs : List X) (k : ℕ) (x : X) → slice_get xs k ≡ Some x → slice_get (map f xs) k ≡ Some (f x)
slice_get-map_there f [] k x is = cc
slice_get-map_there f (y ∷ ys) zero x is = let same : y ≡ x = cc in ap (λ z. Some (f z)) same
slice_get-map_there f (y ∷ ys) (suc k) x is = slice_get-map_there f ys k x is

-- what is written at a place stands there
pub slice_get-set_same : {X : Type 0} (xs : List X) (k : ℕ) (x : X) → k < length xs → slice_get (slice_set xs k x) k ≡ Some x
slice_get-set_same [] k x below = absurd (omega arith)
slice_get-set_same (y ∷ ys) zero x below = refl
slice_get-set_same (y ∷ ys) (suc k) x below = slice_get-set_same ys k x (omega arith)

-- a write at another place changes nothing here
pub slice_get-set_other : {X : Type 0} (xs : List X) (k j : ℕ) (x : X) → j ≢ k → slice_get (slice_set xs k x) j ≡ slice_get xs j
slice_get-set_other [] k j x apart = refl
slice_get-set_other (y ∷ ys) zero zero x apart = absurd (apart refl)
slice_get-set_other (y ∷ ys) zero (suc j) x apart = refl
slice_get-set_other (y ∷ ys) (suc k) zero x apart = refl
slice_get-set_other (y ∷ ys) (suc k) (suc j) x apart = slice_get-set_other ys k j x (λ same. apart (ap suc same))

-- in a list where nothing stands twice a thing has one place
pub one_place : {X : Type 0} (xs : List X) (i j : ℕ) (x : X) → Distinct xs → slice_get xs i ≡ Some x → slice_get xs j ≡ Some x → i ≡ j
one_place [] i j x distinct first second = cc
one_place (y ∷ ys) zero zero x distinct first second = refl
one_place {X} (y ∷ ys) zero (suc j) x distinct first second =
    let same : y ≡ x = cc in let P : X → Type 0 = λ z. In z ys in absurd (distinct.0 (subst P (sym same) (In-slice_get ys j x second)))
one_place {X} (y ∷ ys) (suc i) zero x distinct first second =
    let same : y ≡ x = cc in let P : X → Type 0 = λ z. In z ys in absurd (distinct.0 (subst P (sym same) (In-slice_get ys i x first)))
one_place (y ∷ ys) (suc i) (suc j) x distinct first second = ap suc (one_place ys i j x distinct.1 first second)

-- the first things of a list up to a place and the one there
pub take-slice_get : {X : Type 0} (xs : List X) (k : ℕ) (x : X) → slice_get xs k ≡ Some x → take (k + 1) xs ≡ take k xs ++ x ∷ []
take-slice_get {X} xs k x is =
    take_more xs k x (slice_get_within xs k x is) ∙ ap (λ (y : X). take k xs ++ y ∷ []) (get_or_from_slice_get xs k x x is)

-- the things of a list from a place on are the one there and those behind it
pub drop-slice_get : {X : Type 0} (xs : List X) (k : ℕ) (x : X) → slice_get xs k ≡ Some x → drop k xs ≡ x ∷ drop (k + 1) xs
drop-slice_get xs k x is = drop_split xs k x (slice_get_within xs k x is) (sym (get_or_from_slice_get xs k x x is))

-- a list is cut at a place: what stands before it, the one there, and what stands behind it
pub cut-slice_get : {X : Type 0} (xs : List X) (k : ℕ) (x : X) → slice_get xs k ≡ Some x → xs ≡ take k xs ++ (x ∷ drop (k + 1) xs)
cut-slice_get {X} xs k x is = sym (take-append-drop k xs) ∙ ap (λ (l : List X). take k xs ++ l) (drop-slice_get xs k x is)

-- what stands among the first things of a list stands at one of the first places
pub slice_get-In_take : {X : Type 0} (xs : List X) (n : ℕ) (x : X) → In x (take n xs) → (k : ℕ) × ((k < n) × (slice_get xs k ≡ Some x))
slice_get-In_take [] zero x here = absurd here
slice_get-In_take [] (suc n) x here = absurd here
slice_get-In_take (y ∷ ys) zero x here = absurd here
slice_get-In_take (y ∷ ys) (suc n) x (inl same) = (0, (omega arith, ap Some same))
slice_get-In_take (y ∷ ys) (suc n) x (inr later) = let found = slice_get-In_take ys n x later in (suc found.0, (omega (arith, found.1.0), found.1.1))

-- two lists of one length have one image where images agree place by place
pub map-pointwise : {X Y Z : Type 0} (f : X → Z) (g : Y → Z) (xs : List X) (ys : List Y) → length xs ≡ length ys
    → ((k : ℕ) (x : X) (y : Y) → slice_get xs k ≡ Some x → slice_get ys k ≡ Some y → f x ≡ g y) → map f xs ≡ map g ys
map-pointwise f g [] [] long same = refl
map-pointwise f g [] (y ∷ ys) long same = absurd (omega (arith, long))
map-pointwise f g (x ∷ xs) [] long same = absurd (omega (arith, long))
map-pointwise f g (x ∷ xs) (y ∷ ys) long same =
    let first = same 0 x y refl refl in
    let rest = map-pointwise f g xs ys (omega (arith, long)) (λ k a b p q. same (suc k) a b p q) in (λ i. first i ∷ rest i)

-- two lists of one length that agree place by place are one
pub same_by_places : {X : Type 0} (xs ys : List X) → length xs ≡ length ys
    → ((k : ℕ) (x y : X) → slice_get xs k ≡ Some x → slice_get ys k ≡ Some y → x ≡ y) → xs ≡ ys
same_by_places [] [] long same = refl
same_by_places [] (y ∷ ys) long same = absurd (omega (arith, long))
same_by_places (x ∷ xs) [] long same = absurd (omega (arith, long))
same_by_places (x ∷ xs) (y ∷ ys) long same =
    let first = same 0 x y refl refl in
    let rest = same_by_places xs ys (omega (arith, long)) (λ k a b p q. same (suc k) a b p q) in (λ i. first i ∷ rest i)

-- what stands among the first things of a list stands in it
pub In-take : {X : Type 0} (n : ℕ) (xs : List X) (x : X) → In x (take n xs) → In x xs
In-take {X} n xs x here = let P : List X → Type 0 = λ l. In x l in subst P (take-append-drop n xs) (In-append_left x (take n xs) (drop n xs) here)

-- what stands behind the first things of a list stands in it
pub In-drop : {X : Type 0} (n : ℕ) (xs : List X) (x : X) → In x (drop n xs) → In x xs
In-drop {X} n xs x here = let P : List X → Type 0 = λ l. In x l in subst P (take-append-drop n xs) (In-append_right x (take n xs) (drop n xs) here)

-- what stands in a list stands among its first things or behind them
pub In-take_drop : {X : Type 0} (n : ℕ) (xs : List X) (x : X) → In x xs → In x (take n xs) ⊎ In x (drop n xs)
In-take_drop {X} n xs x here =
    let P : List X → Type 0 = λ l. In x l in In-append_cases x (take n xs) (drop n xs) (subst P (sym (take-append-drop n xs)) here)

-- what is taken in two goes is taken in one
pub take_both : {X : Type 0} (a b : ℕ) (xs : List X) → take (a + b) xs ≡ take a xs ++ take b (drop a xs)
take_both {X} zero b xs = ap (λ (n : ℕ). take n xs) (let none : zero + b ≡ b = omega arith in none)
take_both {X} (suc a) b [] = none_left (suc a + b) ∙ sym (none_left b)
  where
    none_left : (n : ℕ) → take {A = X} n [] ≡ []
    none_left zero = refl
    none_left (suc n) = refl
take_both {X} (suc a) b (x ∷ xs) =
    ap (λ (n : ℕ). take n (x ∷ xs)) (let more : suc a + b ≡ suc (a + b) = omega arith in more) ∙ ap (λ (l : List X). x ∷ l) (take_both a b xs)
