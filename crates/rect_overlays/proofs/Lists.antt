-- Lists of indices and of regions.
use Rattle.rect_overlays.proofs.Common.{◌≡◌, ◌≢◌, inl, inr, Bool, true, false, ℕ, ◌+◌, ◌-◌, ◌<◌, List, [], ◌∷◌, ◌++◌, length, map, get_or, take}
use Rattle.rect_overlays.proofs.Common.{drop, refl, ap, subst, cond, arith, All, AllPairs, filter, range_with_len, In, In-append_left, In-push}
use Rattle.rect_overlays.proofs.Common.{Pairwise, AllPairs-from_Pairwise, Pairwise-from_AllPairs, Rect, AllMeet, AllGoRound, meets_at, goes_round_at}
use Rattle.std.proofs.Common.{Some}
use Rattle.std.specs.Prelude.{find, not, None}
use Rattle.std.proofs.Math.Seq.{drop-append_seam, take-append_seam}
use Rattle.std.proofs.lemmas.List.{length-append}
use Rattle.std.proofs.lemmas.List.Elements.{filter-append}
use Rattle.std.proofs.lemmas.List.FromFn.{length-range_with_len, get_or-range_with_len}
use Rattle.geo_core.proofs.FiniteSets.Searches.{find-In, find-passes, find-none, All-In}

Pairwise-front : {X : Type 0} (R : X → X → Type 0) (xs : List X) (y : X) → Pairwise R (xs ++ y ∷ []) → Pairwise R xs × ((x : X) → In x xs → R x y)
Pairwise-front R [] y h = (tt, λ x i. absurd i)
Pairwise-front {X} R (x ∷ xs) y h =
    let rest = Pairwise-front R xs y h.1 in (
      ((λ z i. h.0 z (In-append_left z xs (y ∷ []) i)), rest.0),
      (λ z i. elim i [ inl e ↦ subst (λ (v : X). R v y) e (h.0 y (In-push xs y)) | inr j ↦ rest.1 z j ]),
    )

-- and without the one at the end
pub AllPairs-front : {X : Type 0} (R : X → X → Type 0) (xs : List X) (y : X) → AllPairs R (xs ++ y ∷ []) → AllPairs R xs × ((x : X) → In x xs → R x y)
AllPairs-front R xs y h = let p = Pairwise-front R xs y (Pairwise-from_AllPairs R (xs ++ y ∷ []) h) in (AllPairs-from_Pairwise R xs p.0, p.1)

-- numbers in a row rise
pub range_rises : (n : ℕ) → AllPairs ◌<◌ (range_with_len 0 n)
range_rises n i j d less below =
    let within : j < n = subst (λ (k : ℕ). j < k) (length-range_with_len 0 n) below in
    let first : get_or (range_with_len 0 n) i d ≡ 0 + i = get_or-range_with_len 0 n i d (omega arith) in
    let second : get_or (range_with_len 0 n) j d ≡ 0 + j = get_or-range_with_len 0 n j d within in
    omega arith

-- what is mapped to a list with a thing at its end ends with one that is mapped to that
pub map_ends : {X Y : Type 0} (f : X → Y) (xs : List X) (ys : List Y) (y : Y) → map f xs ≡ ys ++ y ∷ []
    → (front : List X) × (last : X) × ((xs ≡ front ++ last ∷ []) × (map f front ≡ ys) × (f last ≡ y))
map_ends f [] [] y e = absurd (cc)
map_ends f [] (z ∷ ys) y e = absurd (cc)
map_ends {X} f (x ∷ []) [] y e = ([], x, (refl, refl, cc))
map_ends {X} {Y} f (x ∷ x' ∷ xs) [] y e = let none : f x' ∷ map f xs ≡ [] = cc in absurd (cc)
map_ends {X} {Y} f (x ∷ xs) (z ∷ ys) y e =
    let tail : map f xs ≡ ys ++ y ∷ [] = cc in
    let head : f x ≡ z = cc in
    let found = map_ends f xs ys y tail in
    (x ∷ found.0, found.1, (ap (λ (v : List X). x ∷ v) found.2.0, (let fronts : map f found.0 ≡ ys = found.2.1 in cc), found.2.2))

-- the last so many things of a list, and those before them
pub last_are : {X : Type 0} (xs ys : List X) → drop (length (xs ++ ys) - length ys) (xs ++ ys) ≡ ys
last_are {X} xs ys = subst (λ (n : ℕ). drop n (xs ++ ys) ≡ ys) (let all = length-append xs ys in omega (arith, all)) (drop-append_seam xs ys)

pub front_is : {X : Type 0} (xs ys : List X) → take (length (xs ++ ys) - length ys) (xs ++ ys) ≡ xs
front_is {X} xs ys = subst (λ (n : ℕ). take n (xs ++ ys) ≡ xs) (let all = length-append xs ys in omega (arith, all)) (take-append_seam xs ys)

-- one thing more, kept or not
pub kept_more : {X : Type 0} (p : X → Bool) (xs : List X) (x : X) → filter p (xs ++ x ∷ []) ≡ filter p xs ++ cond (p x) (x ∷ []) []
kept_more p xs x = filter-append p xs (x ∷ [])

-- and one that is not empty has a thing
pub some-In : {X : Type 0} (xs : List X) → xs ≢ [] → (x : X) × In x xs
some-In [] some = absurd (some refl)
some-In (x ∷ xs) some = (x, inl refl)

true_or : (b : Bool) → not b ≡ false → b ≡ true
true_or true e = refl
true_or false e = cc

false_or : (b : Bool) → not b ≡ true → b ≡ false
false_or true e = cc
false_or false e = refl

-- where none is found that doesn't, each goes round the area
pub all_go_round : (rects : List Rect) (area : Rect) (members : List ℕ) → find (λ member. not (goes_round_at rects area member)) members ≡ None
    → AllGoRound rects area members
all_go_round rects area members h member i =
    true_or (goes_round_at rects area member) (find-none (λ m. not (goes_round_at rects area m)) members member h i)

-- what is found has a square in the area
pub found_meets : (rects : List Rect) (area : Rect) (members : List ℕ) (member : ℕ)
    → find (λ member. not (goes_round_at rects area member)) members ≡ Some member → AllMeet rects area members → meets_at rects area member ≡ true
found_meets rects area members member h all = all member (find-In (λ m. not (goes_round_at rects area m)) members member h)

-- and doesn't go round it
pub found_is_partial : (rects : List Rect) (area : Rect) (members : List ℕ) (member : ℕ)
    → find (λ member. not (goes_round_at rects area member)) members ≡ Some member → goes_round_at rects area member ≡ false
found_is_partial rects area members member h =
    false_or (goes_round_at rects area member) (find-passes (λ m. not (goes_round_at rects area m)) members member h)

-- a list whose length is not above 0 is empty
pub none_left : {X : Type 0} (xs : List X) (n : ℕ) → (0 < n → false ≡ true) → n ≡ length xs → xs ≡ []
none_left [] n few l = refl
none_left (x ∷ xs) n few l = let some : 0 < n = omega arith in absurd (let e = few some in cc)

-- what is found among numbers below a bound is below it
pub found_below : (test : ℕ → Bool) (members : List ℕ) (n member : ℕ) → All (λ k. k < n) members → find test members ≡ Some member → member < n
found_below test members n member all e = All-In (λ (k : ℕ). k < n) members member all (find-In test members member e)
