-- The spots of the elements of a grid: where each stands, and which do not meet an area.
use Rattle.cell_library.proofs.Common.{◌≡◌, ◌+◌, ◌*◌, ◌/◌, ◌%◌, ◌<◌, ◌≤◌, ℕ, zero, suc, ℤ, pos, neg_ℤ, ◌+ℤ◌, ◌-ℤ◌, ◌*ℤ◌, ◌≤ℤ◌, ◌<ℤ◌, List, [], ◌∷◌}
use Rattle.cell_library.proofs.Common.{◌++◌, length, Option, refl, sym, ap, subst, ◌∙◌, arith, inl, inr, slice_get, option_map, unsigned_abs}
use Rattle.cell_library.proofs.Common.{cases_lt, ints, length-map, slice_get-map, slice_get_within, mul-le-mul_right, div-lt_iff_lt-mul, Grid}
use Rattle.cell_library.proofs.Common.{MOST_ELEMENTS, Orient, R0, Square, Rect, Transform, Covers, elements_of, composed, image, inverted}
use Rattle.cell_library.proofs.Common.{MovesInReach, columns, rows, elements_of-at, length-elements_of, stands_at, transform_of, image-back}
use Rattle.cell_library.proofs.Common.{image-forth, rect_image-covers, Place, UseBody, displacements, IsLawfulGrid, IsLawfulUse, IsShift, Spot}
use Rattle.cell_library.proofs.Common.{UseSearch, element_transform, IsGridOf, spot_at, spots_to, seen_by, seen_low_x, seen_high_x, seen_low_y}
use Rattle.cell_library.proofs.Common.{seen_high_y, CanBeDropped, AddsSpots, HasRoomToMove}
use Rattle.std.proofs.Common.{negsuc}
use Rattle.std.proofs.Common.{Some, None}
use Rattle.geo_core.specs.Images.{rect_image}
use Rattle.cell_library.proofs.PlacedRects.{back_on}
use Rattle.cell_library.proofs.SpotLaws.{spots_at-more, spots_both, spots_one, spots_none, spots_dropped}

-- ---- multiples

-- a multiple up to a bound is of a number up to the quotient
pub quotient_after : (high step n : ℕ) → 0 < step → n * step ≤ high → n < high / step + 1
quotient_after high step n some before = elim (cases_lt (high / step) n) [
  | inl less ↦ (let past : high < n * step = (div-lt_iff_lt-mul some).0 less in absurd (omega (arith, past, before)))
  | inr not ↦ omega (arith, not)
]

-- ---- where elements stand

-- how far the element in a row and a column is displaced
pub displaced_at : (used : UseBody) (grid : Grid) (m n : ℕ) → IsGridOf used grid → m < rows grid → n < columns grid
    → slice_get (displacements used.grid) (m * columns grid + n) ≡ Some (pos n *ℤ grid.xsep, pos m *ℤ grid.ysep)
displaced_at used grid m n is row column =
    ap (λ (steps : List (ℤ × ℤ)). slice_get steps (m * columns grid + n)) (sym is.same)
    ∙ slice_get-map (λ (e : ℤ × ℤ × ℤ × ℤ). (e.2, e.3)) (elements_of grid) (m * columns grid + n)
    ∙ ap (option_map (λ (e : ℤ × ℤ × ℤ × ℤ). (e.2, e.3))) (elements_of-at grid (m * columns grid + n) m n row column refl)

-- how many elements a use with a grid has
pub length-displacements : (used : UseBody) (grid : Grid) → IsGridOf used grid → length (displacements used.grid) ≡ rows grid * columns grid
length-displacements used grid is =
    ap (λ (steps : List (ℤ × ℤ)). length steps) (sym is.same)
    ∙ length-map {B = ℤ × ℤ} (elements_of grid) (λ (e : ℤ × ℤ × ℤ × ℤ). (e.2, e.3)) ∙ length-elements_of grid

-- an element of a use is displaced so little
pub record IsStepSmall (step : ℤ × ℤ) : Type 0 where
  pub left : neg_ℤ (pos 140737488355328) ≤ℤ step.0
  pub right : step.0 ≤ℤ pos 140737488355328
  pub down : neg_ℤ (pos 140737488355328) ≤ℤ step.1
  pub up : step.1 ≤ℤ pos 140737488355328

product_small : (n : ℕ) (s : ℤ) → n ≤ MOST_ELEMENTS → IsShift s → (neg_ℤ (pos 140737488355328) ≤ℤ (pos n *ℤ s)) ×
    ((pos n *ℤ s) ≤ℤ pos 140737488355328)
product_small n (pos a) few shift =
    let more : n * a ≤ MOST_ELEMENTS * a = mul-le-mul_right a few in
    let small : a ≤ 134217716 = omega (arith, ints, shift.high) in (omega (arith, ints), omega (arith, ints, more, small))
product_small n (negsuc a) few shift =
    let more : n * suc a ≤ MOST_ELEMENTS * suc a = mul-le-mul_right (suc a) few in
    let small : suc a ≤ 134217716 = omega (arith, ints, shift.low) in (omega (arith, ints, more, small), omega (arith, ints))

grid_small : (grid : Grid) (k : ℕ) (step : ℤ × ℤ) → IsLawfulGrid grid → slice_get (displacements (Some grid)) k ≡ Some step → IsStepSmall step
grid_small grid k step lawful is =
    let whole = slice_get_within (displacements (Some grid)) k step is in
    let long : length (displacements (Some grid)) ≡ length (elements_of grid) = length-map {B =
    ℤ × ℤ} (elements_of grid) (λ (e : ℤ × ℤ × ℤ × ℤ). (e.2, e.3)) in
    let place = stands_at grid k (columns grid) lawful.lawful (omega (arith, whole, long)) refl in
    let m = k / columns grid in
    let n = k % columns grid in
    let own : IsGridOf (record { child = record { 0 = 0 }; placed = transform_of R0 (pos 0) (pos 0); grid = Some grid }) grid = record {
      lawful =
          lawful;
      same = refl;
    } in
    let found : Some step ≡ Some (pos n *ℤ grid.xsep, pos m *ℤ grid.ysep) =
    sym is ∙ ap (slice_get (displacements (Some grid))) (sym place.at)
    ∙ displaced_at (record {
      child = record { 0 = 0 };
      placed = transform_of R0 (pos 0) (pos 0);
      grid =
          Some grid;
    }) grid m n own place.row place.column in
    let same : (pos n *ℤ grid.xsep, pos m *ℤ grid.ysep) ≡ step = cc in
    let across = product_small n grid.xsep place.column_small lawful.xsep in
    let upward = product_small m grid.ysep place.row_small lawful.ysep in
    subst IsStepSmall same (record { left = across.0; right = across.1; down = upward.0; up = upward.1 })

-- so is each of a lawful use
pub step_small : (grid : Option Grid) (k : ℕ) (step : ℤ × ℤ) → ((g : Grid) → grid ≡ Some g → IsLawfulGrid g)
    → slice_get (displacements grid) k ≡ Some step
    → IsStepSmall step
step_small None zero step lawful is =
    let same : (pos 0, pos 0) ≡ step = cc in
    subst IsStepSmall same (record { left = omega (arith, ints); right = omega (arith, ints); down = omega (arith, ints); up = omega (arith, ints) })
step_small None (suc k) step lawful is = absurd (cc)
step_small (Some grid) k step lawful is = grid_small grid k step (lawful grid refl) is

-- ---- spots of first elements

-- the spots of no elements
pub spots_to-none : (from : UseSearch) (start : List Spot) → AddsSpots (CanBeDropped from) (spots_to from 0) start start
spots_to-none from start = spots_none (CanBeDropped from) start

-- the spot of one more element was added
pub row_kept : (from : UseSearch) (k : ℕ) (displaced : ℤ × ℤ) (start old new : List Spot)
    → slice_get (displacements from.used.grid) k ≡ Some displaced
    → new ≡ old ++ spot_at from k displaced ∷ [] → AddsSpots (CanBeDropped from) (spots_to from k) start old
    → AddsSpots (CanBeDropped from) (spots_to from (suc k)) start new
row_kept from k displaced start old new is more adds =
    subst (λ (all : List Spot). AddsSpots (CanBeDropped from) all start new)
    (sym (spots_at-more from.part_step from.size from.outer from.used (displacements from.used.grid) k displaced from.part from.element is))
    (spots_both (CanBeDropped from) (spots_to from k) (spot_at from k displaced ∷ []) start old new adds
    (spots_one (CanBeDropped from) (spot_at from k displaced) old new more))

-- the spot of one more element was dropped
row_dropped : (from : UseSearch) (k : ℕ) (displaced : ℤ × ℤ) (start now : List Spot) → slice_get (displacements from.used.grid) k ≡ Some displaced
    → CanBeDropped from (spot_at from k displaced) → AddsSpots (CanBeDropped from) (spots_to from k) start now
    → AddsSpots (CanBeDropped from) (spots_to from (suc k)) start now
row_dropped from k displaced start now is drops adds =
    subst (λ (all : List Spot). AddsSpots (CanBeDropped from) all start now)
    (sym (spots_at-more from.part_step from.size from.outer from.used (displacements from.used.grid) k displaced from.part from.element is))
    (spots_both (CanBeDropped from) (spots_to from k) (spot_at from k displaced ∷ []) start now now adds
    (spots_dropped (CanBeDropped from) (spot_at from k displaced ∷ []) now (λ spot stands. elim stands [
      | inl same ↦ subst (CanBeDropped from) same drops
      | inr none ↦ absurd none
    ])))

-- the spots of elements from one to another were dropped
pub rows_dropped : (from : UseSearch) (k more : ℕ) (start now : List Spot)
    → ((i : ℕ) → k ≤ i → i < k + more → (displaced : ℤ × ℤ) × (slice_get (displacements from.used.grid) i ≡ Some displaced) × CanBeDropped from
    (spot_at from i displaced))
    → AddsSpots (CanBeDropped from) (spots_to from k) start now → AddsSpots (CanBeDropped from) (spots_to from (k + more)) start now
rows_dropped from k zero start now each adds =
    subst (λ (n : ℕ). AddsSpots (CanBeDropped from) (spots_to from n) start now) (let e : k ≡ k + 0 = omega arith in e) adds
rows_dropped from k (suc more) start now each adds =
    let last = each (k + more) (omega arith) (omega arith) in
    subst (λ (n : ℕ). AddsSpots (CanBeDropped from) (spots_to from n) start now) (let e : suc (k + more) ≡ k + suc more = omega arith in e)
    (row_dropped from (k + more) last.0 start now last.1 last.2 (rows_dropped from k more start now (λ i low high. each i low (omega arith)) adds))

-- ---- which do not meet the area

-- The child's hull, displaced, may have a square in common with the area that is seen.
pub record MayMeet (from : UseSearch) (step : ℤ × ℤ) : Type 0 where
  pub right : seen_low_x from <ℤ step.0
  pub left : step.0 <ℤ seen_high_x from
  pub up : seen_low_y from <ℤ step.1
  pub down : step.1 <ℤ seen_high_y from

moved_covers : (hull : Rect) (step : ℤ × ℤ) (square : Square) → Covers (rect_image (transform_of R0 step.0 step.1) hull) square
    → Covers (record { xlo = hull.xlo +ℤ step.0; ylo = hull.ylo +ℤ step.1; xhi = hull.xhi +ℤ step.0; yhi = hull.yhi +ℤ step.1 }) square
unfolding rect_image
moved_covers hull step square covers = record {
  right_of_xlo = omega (arith, ints, covers.right_of_xlo);
  left_of_xhi = omega (arith, ints, covers.left_of_xhi);
  above_ylo = omega (arith, ints, covers.above_ylo);
  below_yhi = omega (arith, ints, covers.below_yhi);
}

meets : (from : UseSearch) (step : ℤ × ℤ) (square : Square) → Covers (seen_by from) square
    → Covers (record {
      xlo = from.hull.xlo +ℤ step.0;
      ylo = from.hull.ylo +ℤ step.1;
      xhi = from.hull.xhi +ℤ step.0;
      yhi =
          from.hull.yhi +ℤ step.1;
    }) square
    → MayMeet from step
meets from step square a b =
    let a0 : (seen_by from).xlo ≤ℤ square.x = a.right_of_xlo in
    let a1 : square.x <ℤ (seen_by from).xhi = a.left_of_xhi in
    let a2 : (seen_by from).ylo ≤ℤ square.y = a.above_ylo in
    let a3 : square.y <ℤ (seen_by from).yhi = a.below_yhi in
    let b0 : (from.hull.xlo +ℤ step.0) ≤ℤ square.x = b.right_of_xlo in
    let b1 : square.x <ℤ (from.hull.xhi +ℤ step.0) = b.left_of_xhi in
    let b2 : (from.hull.ylo +ℤ step.1) ≤ℤ square.y = b.above_ylo in
    let b3 : square.y <ℤ (from.hull.yhi +ℤ step.1) = b.below_yhi in
    let x = bounds (seen_by from).xlo (seen_by from).xhi from.hull.xlo from.hull.xhi step.0 square.x a0 a1 b0 b1 in
    let y = bounds (seen_by from).ylo (seen_by from).yhi from.hull.ylo from.hull.yhi step.1 square.y a2 a3 b2 b3 in
    record { right = x.0; left = x.1; up = y.0; down = y.1 }
  where
    bounds : (seen_low seen_high low high d z : ℤ) → seen_low ≤ℤ z → z <ℤ seen_high → (low +ℤ d) ≤ℤ z → z <ℤ (high +ℤ d)
        → ((seen_low -ℤ high) <ℤ d) × (d <ℤ (seen_high -ℤ low))
    bounds seen_low seen_high low high d z a b c e = (omega (arith, ints), omega (arith, ints))

-- an element whose displaced hull does not meet what is seen can be dropped
pub dropped_from : (from : UseSearch) (k : ℕ) (step : ℤ × ℤ) → (MayMeet from step → ⊥) → CanBeDropped from (spot_at from k step)
dropped_from from k step apart square covers in_back =
    let first = transform_of R0 step.0 step.1 in
    let placed = from.used.placed in
    let place : Place = record { plane = 0; square = image from.outer square } in
    let at_cell : image (inverted (composed (element_transform placed step) from.outer)) (image from.outer square)
    ≡ image (inverted (element_transform placed step)) square =
    ap (λ (p : Place). p.square) (back_on (element_transform placed step) from.outer place)
    ∙ ap (image (inverted (element_transform placed step))) (image-back from.outer square) in
    let at_child : image (inverted (element_transform placed step)) square ≡ image (inverted first) (image (inverted placed) square) =
    ap (λ (p : Place). p.square) (back_on first placed (record { plane = 0; square = square })) in
    let seen : Covers (seen_by from) (image (inverted placed) square) = rect_image-covers (inverted placed) from.back square in_back in
    let in_hull : Covers from.hull (image (inverted first) (image (inverted placed) square)) = subst (Covers from.hull) (at_cell ∙ at_child) covers in
    let moved : Covers (rect_image first from.hull) (image (inverted placed) square) =
    subst (Covers (rect_image first from.hull)) (image-forth first (image (inverted placed) square))
    (rect_image-covers first from.hull (image (inverted first) (image (inverted placed) square)) in_hull) in
    apart (meets from step (image (inverted placed) square) seen (moved_covers from.hull step (image (inverted placed) square) moved))

-- ---- multiples with sign

multiple_up : (n : ℕ) (step : ℤ) (size : ℕ) → pos 0 <ℤ step → size ≡ unsigned_abs step → (pos n *ℤ step) ≡ pos (n * size)
multiple_up n (pos a) size up same =
    let here : a ≡ size = omega (arith, ints, same) in
    let e : (pos n *ℤ pos a) ≡ pos (n * a) = omega (arith, ints) in e ∙ ap (λ (z : ℕ). pos (n * z)) here
multiple_up n (negsuc a) size up same = absurd (omega (arith, ints, up))

multiple_down : (n : ℕ) (step : ℤ) (size : ℕ) → step <ℤ pos 0 → size ≡ unsigned_abs step → (pos n *ℤ step) ≡ neg_ℤ (pos (n * size))
multiple_down n (pos a) size down same = absurd (omega (arith, ints, down))
multiple_down n (negsuc a) size down same =
    let here : suc a ≡ size = omega (arith, ints, same) in
    let e : (pos n *ℤ negsuc a) ≡ neg_ℤ (pos (n * suc a)) = omega (arith, ints) in e ∙ ap (λ (z : ℕ). neg_ℤ (pos (n * z))) here

-- multiples of a step to the right
pub around_up : (step low high : ℤ) (size from to : ℕ) → pos 0 <ℤ step → size ≡ unsigned_abs step → ((n : ℕ) → low <ℤ pos (n * size) → from ≤ n)
    → ((n : ℕ) → pos (n * size) <ℤ high → n < to) → (n : ℕ) → low <ℤ (pos n *ℤ step) → (pos n *ℤ step) <ℤ high → (from ≤ n) × (n < to)
around_up step low high size from to up same first last n past before =
    let is = multiple_up n step size up same in
    (first n (subst (λ (z : ℤ). low <ℤ z) is past), last n (subst (λ (z : ℤ). z <ℤ high) is before))

-- multiples of a step to the left
pub around_down : (step low high : ℤ) (size from to : ℕ) → step <ℤ pos 0 → size ≡ unsigned_abs step → ((n : ℕ) → neg_ℤ high <ℤ pos (n * size)
    → from ≤ n)
    → ((n : ℕ) → pos (n * size) <ℤ neg_ℤ low → n < to) → (n : ℕ) → low <ℤ (pos n *ℤ step) → (pos n *ℤ step) <ℤ high → (from ≤ n) × (n < to)
around_down step low high size from to down same first last n past before =
    let is = multiple_down n step size down same in
    let p : low <ℤ neg_ℤ (pos (n * size)) = subst (λ (z : ℤ). low <ℤ z) is past in
    let b : neg_ℤ (pos (n * size)) <ℤ high = subst (λ (z : ℤ). z <ℤ high) is before in
    (first n (omega (arith, ints, b)), last n (omega (arith, ints, p)))

-- ---- transforms of elements

-- what an element's transform moves by
pub record MovesLittle (placed : Transform) : Type 0 where
  pub left : neg_ℤ (pos 281474976710655) ≤ℤ placed.dx
  pub right : placed.dx ≤ℤ pos 281474976710655
  pub down : neg_ℤ (pos 281474976710655) ≤ℤ placed.dy
  pub up : placed.dy ≤ℤ pos 281474976710655

element_moves-by_orient : (o : Orient) (dx dy : ℤ) (step : ℤ × ℤ) → neg_ℤ (pos 140737488355328) ≤ℤ step.0 → step.0 ≤ℤ pos 140737488355328
    → neg_ℤ (pos 140737488355328) ≤ℤ step.1 → step.1 ≤ℤ pos 140737488355328 → neg_ℤ (pos 134217716) ≤ℤ dx → dx ≤ℤ pos 134217716
    → neg_ℤ (pos 134217716) ≤ℤ dy → dy ≤ℤ pos 134217716 → MovesLittle (element_transform (transform_of o dx dy) step)
element_moves-by_orient R0 dx dy step s0 s1 s2 s3 x0 x1 y0 y1 =
    record { left = omega (arith, ints); right = omega (arith, ints); down = omega (arith, ints); up = omega (arith, ints) }
element_moves-by_orient _ dx dy step s0 s1 s2 s3 x0 x1 y0 y1 =
    record { left = omega (arith, ints); right = omega (arith, ints); down = omega (arith, ints); up = omega (arith, ints) }

-- an element of a lawful use moves little
pub element_moves : (used : UseBody) (k : ℕ) (step : ℤ × ℤ) → IsLawfulUse used → slice_get (displacements used.grid) k ≡ Some step
    → MovesLittle (element_transform used.placed step)
element_moves used k step lawful is =
    let small = step_small used.grid k step lawful.grid is in
    element_moves-by_orient used.placed.orient used.placed.dx used.placed.dy step small.left small.right small.down small.up lawful.dx.low lawful.dx.high
    lawful.dy.low lawful.dy.high

-- what moves little moves in reach
pub little_in_reach : (placed : Transform) → MovesLittle placed → MovesInReach placed
little_in_reach placed moves =
    let p : neg_ℤ (pos 281474976710655) ≤ℤ placed.dx = moves.left in let q : placed.dx ≤ℤ pos 281474976710655 = moves.right in
    let r : neg_ℤ (pos 281474976710655) ≤ℤ placed.dy = moves.down in let s : placed.dy ≤ℤ pos 281474976710655 = moves.up in
    record { dx = (omega (arith, ints), omega (arith, ints)); dy = (omega (arith, ints), omega (arith, ints)) }

-- a small displacement alone does
pub step_in_reach : (step : ℤ × ℤ) → IsStepSmall step → MovesInReach (transform_of R0 step.0 step.1)
step_in_reach step small =
    let p : neg_ℤ (pos 140737488355328) ≤ℤ step.0 = small.left in let q : step.0 ≤ℤ pos 140737488355328 = small.right in
    let r : neg_ℤ (pos 140737488355328) ≤ℤ step.1 = small.down in let s : step.1 ≤ℤ pos 140737488355328 = small.up in
    record { dx = (omega (arith, ints), omega (arith, ints)); dy = (omega (arith, ints), omega (arith, ints)) }

room_below-by_orient : (levels : ℕ) (o : Orient) (dx dy : ℤ) (inner : Transform) → neg_ℤ (pos 281474976710655) ≤ℤ inner.dx
    → inner.dx ≤ℤ pos 281474976710655 → neg_ℤ (pos 281474976710655) ≤ℤ inner.dy → inner.dy ≤ℤ pos 281474976710655
    → (dx +ℤ pos (suc levels * 281474976710656)) ≤ℤ pos 18014398509481984 → pos (suc levels * 281474976710656) ≤ℤ (dx +ℤ pos 18014398509481984)
    → (dy +ℤ pos (suc levels * 281474976710656)) ≤ℤ pos 18014398509481984 → pos (suc levels * 281474976710656) ≤ℤ (dy +ℤ pos 18014398509481984)
    → HasRoomToMove levels (composed inner (transform_of o dx dy))
room_below-by_orient levels R0 dx dy inner p0 p1 p2 p3 r0 r1 r2 r3 =
    record { right = omega (arith, ints); left = omega (arith, ints); up = omega (arith, ints); down = omega (arith, ints) }
room_below-by_orient levels _ dx dy inner p0 p1 p2 p3 r0 r1 r2 r3 =
    record { right = omega (arith, ints); left = omega (arith, ints); up = omega (arith, ints); down = omega (arith, ints) }

-- an element leaves room for one level less
pub room_below : (levels : ℕ) (inner outer : Transform) → MovesLittle inner → HasRoomToMove (suc levels) outer
    → HasRoomToMove levels (composed inner outer)
room_below levels inner outer little room =
    room_below-by_orient levels outer.orient outer.dx outer.dy inner little.left little.right little.down little.up room.right room.left room.up room.down

-- what has room moves in reach
pub room_in_reach : (levels : ℕ) (placed : Transform) → HasRoomToMove levels placed → MovesInReach placed
room_in_reach levels placed room =
    let r0 : (placed.dx +ℤ pos (levels * 281474976710656)) ≤ℤ pos 18014398509481984 = room.right in
    let r1 : pos (levels * 281474976710656) ≤ℤ (placed.dx +ℤ pos 18014398509481984) = room.left in
    let r2 : (placed.dy +ℤ pos (levels * 281474976710656)) ≤ℤ pos 18014398509481984 = room.up in
    let r3 : pos (levels * 281474976710656) ≤ℤ (placed.dy +ℤ pos 18014398509481984) = room.down in
    record { dx = (omega (arith, ints), omega (arith, ints)); dy = (omega (arith, ints), omega (arith, ints)) }

-- room for more levels is room for fewer
pub room_for_less : (levels fewer : ℕ) (placed : Transform) → fewer ≤ levels → HasRoomToMove levels placed → HasRoomToMove fewer placed
room_for_less levels fewer placed less room =
    let r0 : (placed.dx +ℤ pos (levels * 281474976710656)) ≤ℤ pos 18014398509481984 = room.right in
    let r1 : pos (levels * 281474976710656) ≤ℤ (placed.dx +ℤ pos 18014398509481984) = room.left in
    let r2 : (placed.dy +ℤ pos (levels * 281474976710656)) ≤ℤ pos 18014398509481984 = room.up in
    let r3 : pos (levels * 281474976710656) ≤ℤ (placed.dy +ℤ pos 18014398509481984) = room.down in
    record { right = omega (arith, ints); left = omega (arith, ints); up = omega (arith, ints); down = omega (arith, ints) }
