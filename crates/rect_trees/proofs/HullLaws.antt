-- What goes round both sides of a fork has a square in each area in which one of their rectangles has one.
use Rattle.rect_trees.proofs.Common.{◌≡◌, ℕ, false, List, [], ◌∷◌, ◌++◌, None, inl, inr, filter, find, sym, ◌∙◌, ap, subst, arith, false≢true, ints}
use Rattle.rect_trees.proofs.Common.{clamps, In, Rect, common_rect, has_square, IsProper, IsProper-has_square, has_square-IsProper, Node, meets_at}
use Rattle.rect_trees.proofs.Common.{positions_of, hull_of, AreHulls}
use Rattle.std.proofs.Common.{cond}
use Rattle.std.proofs.lemmas.Bool.{cases_Bool}
use Rattle.std.proofs.lemmas.List.Elements.{filter-append}
use Rattle.geo_core.proofs.FiniteSets.Members.{In-filter}
use Rattle.geo_core.proofs.FiniteSets.Searches.{none_found}
use Rattle.geo_core.specs.Areas.{joined_rect}
use Rattle.rect_trees.specs.declared.nodes.Node.{Leaf, Fork'}

-- an area that has a square of a rectangle has one of what goes round it and another
left_in_joined : (a b area : Rect) → IsProper (common_rect a area) → IsProper (common_rect (joined_rect a b) area)
left_in_joined a b area meets =
    let wide = meets.wide in let high = meets.high in
    record { wide = omega (arith, ints, clamps, wide); high = omega (arith, ints, clamps, high) }

-- and one that has a square of the other
right_in_joined : (a b area : Rect) → IsProper (common_rect b area) → IsProper (common_rect (joined_rect a b) area)
right_in_joined a b area meets =
    let wide = meets.wide in let high = meets.high in
    record { wide = omega (arith, ints, clamps, wide); high = omega (arith, ints, clamps, high) }

-- so an area that misses what goes round two misses the first of them
left_missed : (a b area : Rect) → has_square (common_rect (joined_rect a b) area) ≡ false → has_square (common_rect a area) ≡ false
left_missed a b area missed = elim (cases_Bool (has_square (common_rect a area))) [
  | inl meets ↦ absurd (false≢true (sym missed ∙ has_square-IsProper (common_rect (joined_rect a b) area)
      (left_in_joined a b area (IsProper-has_square (common_rect a area) meets))))
  | inr misses ↦ misses
]

-- the second of them
right_missed : (a b area : Rect) → has_square (common_rect (joined_rect a b) area) ≡ false → has_square (common_rect b area) ≡ false
right_missed a b area missed = elim (cases_Bool (has_square (common_rect b area))) [
  | inl meets ↦ absurd (false≢true (sym missed ∙ has_square-IsProper (common_rect (joined_rect a b) area)
      (right_in_joined a b area (IsProper-has_square (common_rect b area) meets))))
  | inr misses ↦ misses
]

-- where an area misses what goes round a tree, nothing in the tree meets it
pub none_meets : (rects : List Rect) (area : Rect) (node : Node) → AreHulls rects node → has_square (common_rect (hull_of rects node) area) ≡ false
    → filter (meets_at rects area) (positions_of node) ≡ []
none_meets rects area (Leaf position) hulls missed = ap (λ b. cond b (position ∷ []) []) missed
none_meets rects area (Fork' p hull left right) hulls missed =
    let misses : has_square (common_rect (joined_rect (hull_of rects left) (hull_of rects right)) area) ≡ false =
    ap (λ (v : Rect). has_square (common_rect v area)) (sym hulls.0) ∙ missed in
    let on_left = none_meets rects area left hulls.1 (left_missed (hull_of rects left) (hull_of rects right) area misses) in
    let on_right = none_meets rects area right hulls.2 (right_missed (hull_of rects left) (hull_of rects right) area misses) in
    filter-append (meets_at rects area) (positions_of left) (positions_of right)
    ∙ ap (λ (v : List ℕ). v ++ filter (meets_at rects area) (positions_of right)) on_left
    ∙ on_right

-- so a search finds nothing there
pub none_first : (rects : List Rect) (area : Rect) (node : Node) → AreHulls rects node → has_square (common_rect (hull_of rects node) area) ≡ false
    → find (meets_at rects area) (positions_of node) ≡ None
none_first rects area node hulls missed = none_found (meets_at rects area) (positions_of node) (λ position here. fails position here)
  where
    fails : (position : ℕ) → In position (positions_of node) → meets_at rects area position ≡ false
    fails position here = elim (cases_Bool (meets_at rects area position)) [
      | inl meets ↦ absurd (subst (In position) (none_meets rects area node hulls missed)
          (In-filter (meets_at rects area) position (positions_of node) here meets))
      | inr misses ↦ misses
    ]
