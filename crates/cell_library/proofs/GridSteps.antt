-- The elements of grids one by one: how far each is displaced, and the boxes of those so far.
use Rattle.cell_library.proofs.Common.{◌≡◌, ℕ, ◌+◌, ◌/◌, ◌%◌, ◌≤◌, ℤ, pos, neg_ℤ, ◌+ℤ◌, ◌*ℤ◌, ◌≤ℤ◌, ◌<ℤ◌, List, [], ◌∷◌, ◌++◌, length, map, take}
use Rattle.cell_library.proofs.Common.{append_assoc, to_z, of_z, w64, FitsSigned, refl, sym, ap, subst, ◌∙◌, arith, None, Some, slice_get}
use Rattle.cell_library.proofs.Common.{option_map, ints, to_z-of_z, length-map, map-append, take_all, take_more, get_or_from_slice_get}
use Rattle.cell_library.proofs.Common.{slice_get-map, slice_get_within, Grid, MOST_ELEMENTS, Rect, elements_of, IsInReach, columns, elements_of-at}
use Rattle.cell_library.proofs.Common.{stands_at, rect_is, UseBody, IsPaintable, displaced, element_hulls, IsLawfulGrid, IsShift, displacements}
use Rattle.std.specs.Prelude.{Option}
use Rattle.std.proofs.lemmas.Option.{same_Some}
use Rattle.geo_core.specs.declared.limits.TheConstants.{REACH}
use Rattle.geo_core.specs.Elements.{element_of}
use Rattle.geo_core.specs.Images.{rect_image}
use Rattle.cell_tree.specs.declared.limits.TheConstants.{SPREAD_EDGE}
use Rattle.cell_tree.proofs.SpreadLaws.{product_low, product_high}

-- a number on its way through 64 bits
abbrev pub kept : ℤ → ℤ
kept z = to_z w64 (of_z w64 z)

-- ---- how far elements are displaced

-- The displacement goes no farther than elements are spread.
pub record IsNearStep (z : ℤ) : Type 0 where
  pub low : neg_ℤ SPREAD_EDGE ≤ℤ z
  pub high : z ≤ℤ SPREAD_EDGE

near_product : (n : ℕ) (s z : ℤ) → n ≤ MOST_ELEMENTS → IsShift s → z ≡ (pos n *ℤ s) → IsNearStep z
near_product n s z few shift is = record {
  low = subst (λ v. neg_ℤ SPREAD_EDGE ≤ℤ v) (sym is) (product_low n s few shift);
  high = subst (λ v. v ≤ℤ SPREAD_EDGE) (sym is) (product_high n s few shift);
}

-- no element of a lawful grid is displaced farther
pub element_is_near : (grid : Grid) (k : ℕ) (element : ℤ × ℤ × ℤ × ℤ) → IsLawfulGrid grid → slice_get (elements_of grid) k ≡ Some element
    → IsNearStep element.2 × IsNearStep element.3
element_is_near grid k element lawful is =
    let m = k / columns grid in
    let n = k % columns grid in
    let stands = stands_at grid k (columns grid) lawful.lawful (slice_get_within (elements_of grid) k element is) refl in
    let same : element ≡ element_of grid (pos m, pos n) =
    same_Some element (element_of grid (pos m, pos n)) (sym is ∙ elements_of-at grid k m n stands.row stands.column stands.at) in (
      near_product n grid.xsep element.2 stands.column_small lawful.xsep (ap (λ (e : ℤ × ℤ × ℤ × ℤ). e.2) same),
      near_product m grid.ysep element.3 stands.row_small lawful.ysep (ap (λ (e : ℤ × ℤ × ℤ × ℤ). e.3) same),
    )

fits_far : (z : ℤ) → neg_ℤ REACH <ℤ z → z <ℤ REACH → FitsSigned w64 z
fits_far z low high = grind (arith, ints)

kept_far : (z : ℤ) → neg_ℤ REACH <ℤ z → z <ℤ REACH → kept z ≡ z
kept_far z low high = to_z-of_z w64 z (fits_far z low high)

-- A coordinate that is displaced fits, and lies in reach.
pub record MovesTo (a z : ℤ) : Type 0 where
  pub fits : FitsSigned w64 (kept a +ℤ kept z)
  pub is : kept (kept a +ℤ kept z) ≡ (a +ℤ z)
  pub reach : IsInReach (kept (kept a +ℤ kept z))

-- that of paint does
pub moves_to : (a z : ℤ) → IsPaintable a → IsNearStep z → MovesTo a z
moves_to a z paintable near =
    let a_low : neg_ℤ (pos 67108858) ≤ℤ a = paintable.low in
    let a_high : a ≤ℤ pos 67108858 = paintable.high in
    let z_low : neg_ℤ SPREAD_EDGE ≤ℤ z = near.low in
    let z_high : z ≤ℤ SPREAD_EDGE = near.high in
    let a_is : kept a ≡ a = kept_far a (omega (arith, ints)) (omega (arith, ints)) in
    let z_is : kept z ≡ z = kept_far z (omega (arith, ints)) (omega (arith, ints)) in
    let sum : (kept a +ℤ kept z) ≡ (a +ℤ z) = ap (λ v. v +ℤ kept z) a_is ∙ ap (λ v. a +ℤ v) z_is in
    let low : neg_ℤ REACH <ℤ (a +ℤ z) = omega (arith, ints) in
    let high : (a +ℤ z) <ℤ REACH = omega (arith, ints) in
    let is : kept (kept a +ℤ kept z) ≡ (a +ℤ z) = ap kept sum ∙ kept_far (a +ℤ z) low high in
    record { fits = subst (FitsSigned w64) (sym sum) (fits_far (a +ℤ z) low high); is = is; reach = subst IsInReach (sym is) (low, high) }

-- ---- the hull of a child in the elements

-- there are as many displacements as elements
pub displacement_count : (grid : Grid) → length (displacements (Some grid)) ≡ length (elements_of grid)
displacement_count grid = length-map (elements_of grid) (λ (e : ℤ × ℤ × ℤ × ℤ). (e.2, e.3))

-- the hull in the k-th element
pub element_moved : (grid : Grid) (hull area : Rect) (k : ℕ) (element : ℤ × ℤ × ℤ × ℤ) → slice_get (elements_of grid) k ≡ Some element
    → displaced hull (element.2, element.3) ≡ area → slice_get (map (displaced hull) (displacements (Some grid))) k ≡ Some area
element_moved grid hull area k element is same =
    slice_get-map (displaced hull) (displacements (Some grid)) k
    ∙ ap (option_map (displaced hull))
    (slice_get-map (λ (e : ℤ × ℤ × ℤ × ℤ). (e.2, e.3)) (elements_of grid) k ∙ ap (option_map (λ (e : ℤ × ℤ × ℤ × ℤ). (e.2, e.3))) is)
    ∙ ap Some same

-- ---- lists of images so far

-- one image more
pub images_on : {X Y : Type 0} (f : X → Y) (xs : List X) (k : ℕ) (x : X) (before so_far after : List Y) → slice_get xs k ≡ Some x
    → so_far ≡ before ++ map f (take k xs) → after ≡ so_far ++ f x ∷ [] → after ≡ before ++ map f (take (k + 1) xs)
images_on {X} {Y} f xs k x before so_far after at is next =
    let more : take (k + 1) xs ≡ take k xs ++ x ∷ [] =
    take_more xs k x (slice_get_within xs k x at) ∙ ap (λ (y : X). take k xs ++ y ∷ []) (get_or_from_slice_get xs k x x at) in
    next ∙ ap (λ (ys : List Y). ys ++ f x ∷ []) is ∙ append_assoc before (map f (take k xs)) (f x ∷ [])
    ∙ ap (λ (ys : List Y). before ++ ys) (sym (map-append f (take k xs) (x ∷ [])) ∙ ap (map f) (sym more))

-- all images
pub images_all : {X Y : Type 0} (f : X → Y) (xs : List X) (k : ℕ) (before so_far : List Y) → length xs ≤ k → so_far ≡ before ++ map f (take k xs)
    → so_far ≡ before ++ map f xs
images_all {X} {Y} f xs k before so_far long is = is ∙ ap (λ (ys : List X). before ++ map f ys) (take_all k xs long)

-- ---- uses without a grid

-- a use without a grid has one element, which stands where the child does
pub one_box : (body : UseBody) (hull area : Rect) (boxes after : List Rect) → body.grid ≡ None → area ≡ rect_image body.placed hull
    → after ≡ boxes ++ area ∷ []
    → after ≡ boxes ++ element_hulls body (Some hull)
one_box body hull area boxes after alone is next =
    let still : displaced hull (pos 0, pos 0) ≡ hull =
    rect_is _ _ (omega (arith, ints)) (omega (arith, ints)) (omega (arith, ints)) (omega (arith, ints)) in
    next ∙ ap (λ (box : Rect). boxes ++ box ∷ []) (is ∙ ap (rect_image body.placed) (sym still))
    ∙ ap (λ (grid : Option Grid). boxes ++ map (λ step. rect_image body.placed (displaced hull step)) (displacements grid)) (sym alone)
