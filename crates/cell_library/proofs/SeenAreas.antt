-- An area as it is seen in the coordinates of a child, and which rows and columns of a grid it bounds.
use Rattle.cell_library.proofs.Common.{◌≡◌, ℕ, ℤ, pos, neg_ℤ, ◌-ℤ◌, ◌≤ℤ◌, sym, ap, subst, ◌∙◌, arith, ints, Grid, Rect, Transform, indices, inverted}
use Rattle.cell_library.proofs.Common.{IsInReach, columns, rows, IsPaintable, IsShift, UseSearch, seen_by, seen_low_x, seen_high_x, seen_low_y}
use Rattle.cell_library.proofs.Common.{seen_high_y, HasRoomFor, HoldsMultiples, IsGridOf}
use Rattle.geo_core.specs.Images.{rect_image}
use Rattle.cell_library.proofs.RowSpots.{holds_same, kept, kept_columns, kept_rows, kept_shift, seen_far, IsFarther, SpansFarther}

-- The rectangle is what is seen of the area, not too far away.
pub record IsSeen (from : UseSearch) (seen : Rect) : Type 0 where
  pub is : seen ≡ seen_by from
  pub far : SpansFarther seen

-- what undoes the use's transform takes the area there
pub seen_is : (from : UseSearch) (seen : Rect) (back : Transform) → HasRoomFor from → back ≡ inverted from.used.placed
    → seen ≡ rect_image back from.back → IsSeen from seen
seen_is from seen back room undoes image =
    let is : seen ≡ seen_by from = image ∙ ap (λ (t : Transform). rect_image t from.back) undoes in
    record { is = is; far = subst SpansFarther (sym is) (seen_far from.used.placed from.back room.lawful.dx room.lawful.dy room.back) }

-- ---- one side

-- a side of what is seen, less a side of the hull
abbrev pub gap : ℤ → ℤ → ℤ
gap a b = kept (kept a -ℤ kept b)

gap_is : (a b : ℤ) → IsFarther a → IsPaintable b → gap a b ≡ (a -ℤ b)
gap_is a b far paintable =
    let p : neg_ℤ (pos 432345564227567616) ≤ℤ a = far.low in let q : a ≤ℤ pos 432345564227567616 = far.high in
    let r : neg_ℤ (pos 67108858) ≤ℤ b = paintable.low in let s : b ≤ℤ pos 67108858 = paintable.high in
    omega (arith, ints)

-- lies in reach
pub gap_in_reach : (a b : ℤ) → IsFarther a → IsPaintable b → IsInReach (gap a b)
gap_in_reach a b far paintable =
    let p : neg_ℤ (pos 432345564227567616) ≤ℤ a = far.low in let q : a ≤ℤ pos 432345564227567616 = far.high in
    let r : neg_ℤ (pos 67108858) ≤ℤ b = paintable.low in let s : b ≤ℤ pos 67108858 = paintable.high in
    subst IsInReach (sym (gap_is a b far paintable)) (omega (arith, ints), omega (arith, ints))

holds_seen : (count counted : ℕ) (step low high hull_low hull_high : ℤ) (first end : ℕ) → counted ≡ count → IsShift step → IsFarther low → IsFarther high
    → IsPaintable hull_low → IsPaintable hull_high → HoldsMultiples counted (kept step) (gap low hull_high) (gap high hull_low) first end
    → HoldsMultiples count step (low -ℤ hull_high) (high -ℤ hull_low) first end
holds_seen count counted step low high hull_low hull_high first end same shift far_low far_high near_low near_high holds =
    holds_same count counted step (kept step) (low -ℤ hull_high) (gap low hull_high) (high -ℤ hull_low) (gap high hull_low) first end holds same
    (kept_shift step shift) (gap_is low hull_high far_low near_high) (gap_is high hull_low far_high near_low)

-- ---- grids

-- the columns of a grid that were found
pub columns_seen : (from : UseSearch) (grid : Grid) (seen : Rect) (count first end : ℕ) → HasRoomFor from → IsSeen from seen → IsGridOf from.used grid
    → count ≡ indices (kept grid.xlo) (kept grid.xhi)
    → HoldsMultiples count (kept grid.xsep) (gap seen.xlo from.hull.xhi) (gap seen.xhi from.hull.xlo) first end
    → HoldsMultiples (columns grid) grid.xsep (seen_low_x from) (seen_high_x from) first end
columns_seen from grid seen count first end room is of counted holds =
    subst (λ (r : Rect). HoldsMultiples (columns grid) grid.xsep (r.xlo -ℤ from.hull.xhi) (r.xhi -ℤ from.hull.xlo) first end) is.is
    (holds_seen (columns grid) count grid.xsep seen.xlo seen.xhi from.hull.xlo from.hull.xhi first end (counted ∙ kept_columns grid of.lawful)
    of.lawful.xsep is.far.xlo is.far.xhi room.hull.xlo room.hull.xhi holds)

-- and its rows
pub rows_seen : (from : UseSearch) (grid : Grid) (seen : Rect) (count first end : ℕ) → HasRoomFor from → IsSeen from seen → IsGridOf from.used grid
    → count ≡ indices (kept grid.ylo) (kept grid.yhi)
    → HoldsMultiples count (kept grid.ysep) (gap seen.ylo from.hull.yhi) (gap seen.yhi from.hull.ylo) first end
    → HoldsMultiples (rows grid) grid.ysep (seen_low_y from) (seen_high_y from) first end
rows_seen from grid seen count first end room is of counted holds =
    subst (λ (r : Rect). HoldsMultiples (rows grid) grid.ysep (r.ylo -ℤ from.hull.yhi) (r.yhi -ℤ from.hull.ylo) first end) is.is
    (holds_seen (rows grid) count grid.ysep seen.ylo seen.yhi from.hull.ylo from.hull.yhi first end (counted ∙ kept_rows grid of.lawful)
    of.lawful.ysep is.far.ylo is.far.yhi room.hull.ylo room.hull.yhi holds)
