-- Places of the rectangles that have squares, as they are found and as they are sorted.
use Rattle.rect_trees.proofs.Common.{◌≡◌, ◌≢◌, ℕ, ◌<◌, ◌≤◌, false, List, [], ◌∷◌, ◌++◌, inl, inr, map, length, get_or, take, sym, ◌∙◌, ap, subst}
use Rattle.rect_trees.proofs.Common.{arith, false≢true, Distinct, Lists, Rect, has_square, IsProper, IsProper-has_square, has_square-IsProper, Place}
use Rattle.rect_trees.proofs.Common.{rect_at, HasSquareAt, position_of, ArePlaces}
use Rattle.std.proofs.Common.{◌+◌, ◌-◌, true, ◌⊎◌}
use Rattle.std.proofs.Common.{drop, length-drop}
use Rattle.std.specs.Prelude.{All, IsPermutation}
use Rattle.std.proofs.lemmas.List.{map-append, take_all, take-append-drop}
use Rattle.std.proofs.lemmas.List.Sorted.{IsPermutation-sym, IsPermutation-map}
use Rattle.geo_core.proofs.FiniteSets.Members.{In-permutation, In-map, In-get_or}
use Rattle.geo_core.proofs.FiniteSets.Listings.{Lists-none, Lists-one, Lists-append, Lists-iff}
use Rattle.geo_core.proofs.FiniteSets.Images.{Distinct-permutation}

-- the list of a set, in another order
pub Lists-permutation : {X : Type 0} (P : X → Type 0) (xs ys : List X) → IsPermutation xs ys → Lists P xs → Lists P ys
Lists-permutation P xs ys moved lists = (
  Distinct-permutation xs ys moved lists.0,
  (λ x has. In-permutation x xs ys moved (lists.1 x has)),
  (λ x here. lists.2 x (In-permutation x ys xs (IsPermutation-sym xs ys moved) here)),
)

-- places stay the same in another order
pub places_moved : (rects : List Rect) (old new : List Place) → IsPermutation old new → ArePlaces rects old → ArePlaces rects new
places_moved rects old new moved places = record {
  are = Lists-permutation (HasSquareAt rects) (map position_of old) (map position_of new) (IsPermutation-map position_of old new moved) places.are;
}

-- other places with the same positions
pub places_same : (rects : List Rect) (old new : List Place) → map position_of new ≡ map position_of old → ArePlaces rects old → ArePlaces rects new
places_same rects old new same places = record { are = subst (Lists (HasSquareAt rects)) (sym same) places.are }

-- each is a place of a rectangle of the list
pub places_within : (rects : List Rect) (places : List Place) → ArePlaces rects places → All (λ place. place.position < length rects) places
places_within rects places are = λ k d below.
    (are.are.2 (position_of (get_or places k d)) (In-map position_of (get_or places k d) places (In-get_or places k d below))).within

-- The rectangle has a square, and is one of the first n.
pub record IsEarly (rects : List Rect) (n position : ℕ) : Type 0 where
  pub early : position < n
  pub has : HasSquareAt rects position

-- These are places of those of the first n rectangles that have squares.
pub record AreEarly (rects : List Rect) (n : ℕ) (places : List Place) : Type 0 where
  pub are : Lists (IsEarly rects n) (map position_of places)

-- one of the next n + 1 is one of the first n, or the last
early_or_last : (rects : List Rect) (n position : ℕ) → IsEarly rects (n + 1) position → IsEarly rects n position ⊎ (n ≡ position)
early_or_last rects n position h = by_cases (last_or_before n position h.early)
  where
    last_or_before : (n k : ℕ) → k < n + 1 → (k < n) ⊎ (n ≡ k)
    last_or_before n k less = grind arith

    by_cases : (position < n) ⊎ (n ≡ position) → IsEarly rects n position ⊎ (n ≡ position)
    by_cases (inl less) = inl (record { early = less; has = h.has })
    by_cases (inr last) = inr last

-- one of the first n is one of the first n + 1
early_later : (rects : List Rect) (n position : ℕ) → IsEarly rects n position → IsEarly rects (n + 1) position
early_later rects n position h = let early = h.early in record { early = omega arith; has = h.has }

-- the next rectangle has a square
pub early_more : (rects : List Rect) (n : ℕ) (places : List Place) (place : Place) → n < length rects
    → has_square (rect_at rects n) ≡ true → place.position ≡ n → AreEarly rects n places → AreEarly rects (n + 1) (places ++ place ∷ [])
early_more rects n places place inside passes is early =
    let here : HasSquareAt rects n = record { within = inside; proper = IsProper-has_square (rect_at rects n) passes } in
    let last : IsEarly rects (n + 1) n = record { early = omega arith; has = here } in
    let more : Lists (λ k. IsEarly rects n k ⊎ (n ≡ k)) (map position_of places ++ n ∷ []) =
    Lists-append (IsEarly rects n) (λ k. n ≡ k) (map position_of places) (n ∷ []) (λ k h e. let less = h.early in omega arith) early.are
    (Lists-one n) in
    let all : Lists (IsEarly rects (n + 1)) (map position_of places ++ n ∷ []) =
    Lists-iff (λ k. IsEarly rects n k ⊎ (n ≡ k)) (IsEarly rects (n + 1)) (map position_of places ++ n ∷ [])
    (λ k h. elim h [ inl early ↦ early_later rects n k early | inr e ↦ subst (IsEarly rects (n + 1)) e last ])
    (early_or_last rects n) more in
    record {
      are = subst (Lists (IsEarly rects (n + 1)))
          (sym (map-append position_of places (place ∷ []) ∙ ap (λ (k : ℕ). map position_of places ++ k ∷ []) is)) all;
    }

-- or it has none
pub early_same : (rects : List Rect) (n : ℕ) (places : List Place) → has_square (rect_at rects n) ≡ false → AreEarly rects n places
    → AreEarly rects (n + 1) places
early_same rects n places fails early = record {
  are = Lists-iff (IsEarly rects n) (IsEarly rects (n + 1)) (map position_of places) (early_later rects n)
      (λ k h. elim (early_or_last rects n k h) [
        | inl less ↦ less
        | inr e ↦ (
            let proper : IsProper (rect_at rects n) = subst (λ (m : ℕ). IsProper (rect_at rects m)) (sym e) h.has.proper in
            absurd (false≢true (sym fails ∙ has_square-IsProper (rect_at rects n) proper)))
      ]) early.are;
}

-- all of them are done
pub early_all : (rects : List Rect) (n : ℕ) (places : List Place) → length rects ≤ n → AreEarly rects n places → ArePlaces rects places
early_all rects n places done early = record {
  are = Lists-iff (IsEarly rects n) (HasSquareAt rects) (map position_of places) (λ k h. h.has)
      (λ k h. let within = h.within in record { early = omega arith; has = h }) early.are;
}

-- the positions of both halves are those of the whole
pub halves_joined : (places : List Place) (middle : ℕ) → middle ≤ length places
    → map position_of (take middle places) ++ map position_of (take (length places - middle) (drop middle places)) ≡ map position_of places
halves_joined places middle inside =
    let whole : take (length places - middle) (drop middle places) ≡ drop middle places =
    take_all (length places - middle) (drop middle places) (omega (arith, length-drop middle places)) in
    sym (map-append position_of (take middle places) (take (length places - middle) (drop middle places)))
    ∙ ap (map position_of) (ap (λ (v : List Place). take middle places ++ v) whole ∙ take-append-drop middle places)
