-- The spots of the rows of a grid: those outside the ranges of indices that may meet an area are dropped.
use Rattle.cell_library.proofs.Common.{◌≡◌, ◌+◌, ◌*◌, ◌-◌, ◌/◌, ◌%◌, ◌<◌, ◌≤◌, ℕ, ℤ, pos, neg_ℤ, ◌-ℤ◌, ◌*ℤ◌, ◌≤ℤ◌, ◌<ℤ◌, to_z, of_z, w64, FitsSigned}
use Rattle.cell_library.proofs.Common.{List, [], ◌∷◌, length, Option, refl, sym, ap, subst, ◌∙◌, arith, inl, inr, slice_get, option_map, cases_lt}
use Rattle.cell_library.proofs.Common.{ints, to_z-of_z, take_all, slice_get-map, mul-le-mul_right, div-lt_iff_lt-mul, In, Grid, MOST_ELEMENTS}
use Rattle.cell_library.proofs.Common.{Orient, R0, Rect, Transform, elements_of, indices, inverted, IsInReach, MovesInReach, columns, rows}
use Rattle.cell_library.proofs.Common.{length-elements_of, transform_of, Size, UseBody, IsPaintable, size_at, displacements, IsLawfulGrid}
use Rattle.cell_library.proofs.Common.{IsLawfulUse, IsShift, Spot, UseSearch, HoldsMultiples, IsGridOf, spots_to, seen_low_x, seen_high_x}
use Rattle.cell_library.proofs.Common.{seen_low_y, seen_high_y, CanBeDropped, AddsRow, SpansFar, spots_at, AddsSpots, IsApart}
use Rattle.std.proofs.Common.{Some, None}
use Rattle.std.specs.Int.{w32}
use Rattle.std.proofs.lemmas.Nat.{mul-add-lt}
use Rattle.std.proofs.Math.Nat.{div-add-mod, mod-lt}
use Rattle.geo_core.specs.Images.{rect_image}
use Rattle.cell_library.specs.Spots.{StandsApart}
use Rattle.cell_library.proofs.GridSpots.{IsStepSmall, displaced_at, dropped_from, length-displacements, rows_dropped}
use Rattle.cell_library.proofs.SpotLaws.{sifted_weaken, spots_dropped}

-- ---- one row

-- elements of a row that are out of the range of columns were dropped
pub columns_dropped : (from : UseSearch) (grid : Grid) (width m first end low high : ℕ) (now : List Spot) → IsGridOf from.used grid
    → width ≡ columns grid → m < rows grid
    → first ≤ end → end ≤ width → HoldsMultiples (columns grid) grid.xsep (seen_low_x from) (seen_high_x from) low high
    → ((n : ℕ) → first ≤ n → n < end → low ≤ n → n < high → ⊥) → AddsRow from (m * width + first) (m * width + end) now now
columns_dropped from grid width m first end low high now is wide row order within holds none start adds =
    let long : m * width + first + (end - first) ≡ m * width + end = omega arith in
    subst (λ (n : ℕ). AddsSpots (CanBeDropped from) (spots_to from n) start now) long
    (rows_dropped from (m * width + first) (end - first) start now (λ i after before.
    let n = i - m * width in
    let n_low : first ≤ n = omega arith in
    let n_high : n < end = omega arith in
    let column : n < columns grid = omega (arith, wide) in
    let at : m * columns grid + n ≡ i = ap (λ (w : ℕ). m * w + n) (sym wide) ∙ omega arith in
    let step : ℤ × ℤ = (pos n *ℤ grid.xsep, pos m *ℤ grid.ysep) in (
      step,
      subst (λ (k : ℕ). slice_get (displacements from.used.grid) k ≡ Some step) at (displaced_at from.used grid m n is row column),
      dropped_from from i step (λ may. let seen = holds.all n column may.right may.left in none n n_low n_high seen.0 seen.1),
    )) adds)

-- ---- rows

-- elements of rows that are out of the range of rows were dropped
pub rows_out : (from : UseSearch) (grid : Grid) (width first end low high : ℕ) (now : List Spot) → IsGridOf from.used grid → width ≡ columns grid
    → first ≤ end → end ≤ rows grid → HoldsMultiples (rows grid) grid.ysep (seen_low_y from) (seen_high_y from) low high
    → ((m : ℕ) → first ≤ m → m < end → low ≤ m → m < high → ⊥) → AddsRow from (first * width) (end * width) now now
rows_out from grid width first end low high now is wide order within holds none start adds =
    let more : first * width ≤ end * width = mul-le-mul_right width order in
    let long : first * width + (end * width - first * width) ≡ end * width = omega (arith, more) in
    subst (λ (n : ℕ). AddsSpots (CanBeDropped from) (spots_to from n) start now) long
    (rows_dropped from (first * width) (end * width - first * width) start now (λ i after before.
    let some : 0 < width = omega (arith, wide) in
    let m = i / width in
    let n = i % width in
    let m_high : m < end = (div-lt_iff_lt-mul some).1 (let b : i < end * width = omega (arith, before, more) in b) in
    let m_low : first ≤ m = elim (cases_lt m first) [
      | inl less ↦ (let past : i < first * width = (div-lt_iff_lt-mul some).0 less in absurd (omega (arith, past, after)))
      | inr not ↦ not
    ] in
    let row : m < rows grid = omega (arith, m_high, within) in
    let narrow : n < width = mod-lt i some in
    let column : n < columns grid = omega (arith, narrow, wide) in
    let at : m * columns grid + n ≡ i = ap (λ (w : ℕ). m * w + n) (sym wide) ∙ omega (arith, div-add-mod i width) in
    let step : ℤ × ℤ = (pos n *ℤ grid.xsep, pos m *ℤ grid.ysep) in (
      step,
      subst (λ (k : ℕ). slice_get (displacements from.used.grid) k ≡ Some step) at (displaced_at from.used grid m n is row column),
      dropped_from from i step (λ may. let seen = holds.all m row may.up may.down in none m m_low m_high seen.0 seen.1),
    )) adds)

-- how far the element at a place of the grid's list is displaced
pub displaced_as : (used : UseBody) (grid : Grid) (k : ℕ) (element : ℤ × ℤ × ℤ × ℤ) → IsGridOf used grid
    → slice_get (elements_of grid) k ≡ Some element
    → slice_get (displacements used.grid) k ≡ Some (element.2, element.3)
displaced_as used grid k element is stands =
    ap (λ (steps : List (ℤ × ℤ)). slice_get steps k) (sym is.same)
    ∙ slice_get-map (λ (e : ℤ × ℤ × ℤ × ℤ). (e.2, e.3)) (elements_of grid) k
    ∙ ap (option_map (λ (e : ℤ × ℤ × ℤ × ℤ). (e.2, e.3))) stands

-- a number on its way through 64 bits
abbrev pub kept : ℤ → ℤ
kept z = to_z w64 (of_z w64 z)

-- a small displacement stays on that way
pub kept_step : (step : ℤ × ℤ) → IsStepSmall step → (kept step.0 ≡ step.0) × (kept step.1 ≡ step.1)
kept_step step small =
    let p : neg_ℤ (pos 140737488355328) ≤ℤ step.0 = small.left in let q : step.0 ≤ℤ pos 140737488355328 = small.right in
    let r : neg_ℤ (pos 140737488355328) ≤ℤ step.1 = small.down in let s : step.1 ≤ℤ pos 140737488355328 = small.up in
    (keeps step.0 p q, keeps step.1 r s)
  where
    fits : (z : ℤ) → neg_ℤ (pos 140737488355328) ≤ℤ z → z ≤ℤ pos 140737488355328 → FitsSigned w64 z
    fits z p q = grind (arith, ints)

    keeps : (z : ℤ) → neg_ℤ (pos 140737488355328) ≤ℤ z → z ≤ℤ pos 140737488355328 → kept z ≡ z
    keeps z p q = to_z-of_z w64 z (fits z p q)

-- the place of an element is below how many there are
pub place_below : (grid : Grid) (width m n : ℕ) → width ≡ columns grid → m < rows grid → n < width → m * width + n < length (elements_of grid)
place_below grid width m n wide row column =
    let less : m * width + n < width * rows grid = mul-add-lt m width n (rows grid) row column in
    let same : width * rows grid ≡ columns grid * rows grid = ap (λ (w : ℕ). w * rows grid) wide in
    let swap : columns grid * rows grid ≡ rows grid * columns grid = omega arith in
    omega (arith, less, same, swap, length-elements_of grid)

-- a lawful use has not too many elements
pub few_displacements : (used : UseBody) → IsLawfulUse used → length (displacements used.grid) ≤ MOST_ELEMENTS
few_displacements used lawful = by used.grid refl
  where
    by : (grid : Option Grid) → used.grid ≡ grid → length (displacements used.grid) ≤ MOST_ELEMENTS
    by None is = subst (λ (g : Option Grid). length (displacements g) ≤ MOST_ELEMENTS) (sym is) (omega arith)
    by (Some grid) is =
        let whole : IsGridOf used grid = record { lawful = lawful.grid grid is; same = ap displacements (sym is) } in
        let count : columns grid * rows grid ≤ MOST_ELEMENTS = whole.lawful.lawful.count in
        let long = length-displacements used grid whole in
        let swap : rows grid * columns grid ≡ columns grid * rows grid = omega arith in
        omega (arith, long, count, swap)

-- ---- how far coordinates go

inverted_in_reach-by_orient : (o : Orient) (dx dy : ℤ) → MovesInReach (transform_of o dx dy) → MovesInReach (inverted (transform_of o dx dy))
inverted_in_reach-by_orient R0 dx dy moves = record {
  dx = (omega (arith, ints, moves.dx, moves.dy), omega (arith, ints, moves.dx, moves.dy));
  dy = (omega (arith, ints, moves.dx, moves.dy), omega (arith, ints, moves.dx, moves.dy));
}
inverted_in_reach-by_orient _ dx dy moves = record {
  dx = (omega (arith, ints, moves.dx, moves.dy), omega (arith, ints, moves.dx, moves.dy));
  dy = (omega (arith, ints, moves.dx, moves.dy), omega (arith, ints, moves.dx, moves.dy));
}

-- what undoes a transform moves as far
pub inverted_in_reach : (t : Transform) → MovesInReach t → MovesInReach (inverted t)
inverted_in_reach t moves = inverted_in_reach-by_orient t.orient t.dx t.dy moves

-- not much more than half the reach in absolute value
pub record IsFarther (z : ℤ) : Type 0 where
  pub low : neg_ℤ (pos 432345564227567616) ≤ℤ z
  pub high : z ≤ℤ pos 432345564227567616

-- the same of each side of a rectangle
pub record SpansFarther (area : Rect) : Type 0 where
  pub xlo : IsFarther area.xlo
  pub ylo : IsFarther area.ylo
  pub xhi : IsFarther area.xhi
  pub yhi : IsFarther area.yhi

-- a rectangle each of whose sides lies between the bounds
spans_farther : (area : Rect) → neg_ℤ (pos 432345564227567616) ≤ℤ area.xlo → area.xlo ≤ℤ pos 432345564227567616
    → neg_ℤ (pos 432345564227567616) ≤ℤ area.ylo → area.ylo ≤ℤ pos 432345564227567616
    → neg_ℤ (pos 432345564227567616) ≤ℤ area.xhi → area.xhi ≤ℤ pos 432345564227567616
    → neg_ℤ (pos 432345564227567616) ≤ℤ area.yhi → area.yhi ≤ℤ pos 432345564227567616 → SpansFarther area
spans_farther area a0 a1 b0 b1 c0 c1 d0 d1 = record {
  xlo = record { low = a0; high = a1 };
  ylo = record { low = b0; high = b1 };
  xhi = record { low = c0; high = c1 };
  yhi = record { low = d0; high = d1 };
}

seen_far-by_orient : (o : Orient) (dx dy : ℤ) (back : Rect) → neg_ℤ (pos 134217716) ≤ℤ dx → dx ≤ℤ pos 134217716 → neg_ℤ (pos 134217716) ≤ℤ dy
    → dy ≤ℤ pos 134217716 → neg_ℤ (pos 288230376151711744) ≤ℤ back.xlo → back.xlo ≤ℤ pos 288230376151711744
    → neg_ℤ (pos 288230376151711744) ≤ℤ back.ylo → back.ylo ≤ℤ pos 288230376151711744
    → neg_ℤ (pos 288230376151711744) ≤ℤ back.xhi → back.xhi ≤ℤ pos 288230376151711744
    → neg_ℤ (pos 288230376151711744) ≤ℤ back.yhi → back.yhi ≤ℤ pos 288230376151711744
    → SpansFarther (rect_image (inverted (transform_of o dx dy)) back)
unfolding rect_image
seen_far-by_orient R0 dx dy back x0 x1 y0 y1 a0 a1 b0 b1 c0 c1 d0 d1 =
    spans_farther _ (omega (arith, ints)) (omega (arith, ints)) (omega (arith, ints)) (omega (arith, ints)) (omega (arith, ints)) (omega (arith, ints))
    (omega (arith, ints)) (omega (arith, ints))
seen_far-by_orient _ dx dy back x0 x1 y0 y1 a0 a1 b0 b1 c0 c1 d0 d1 =
    spans_farther _ (omega (arith, ints)) (omega (arith, ints)) (omega (arith, ints)) (omega (arith, ints)) (omega (arith, ints)) (omega (arith, ints))
    (omega (arith, ints)) (omega (arith, ints))

-- an area that is not too far comes back to a child not too far
pub seen_far : (placed : Transform) (back : Rect) → IsShift placed.dx → IsShift placed.dy → SpansFar back
    → SpansFarther (rect_image (inverted placed) back)
seen_far placed back x y far =
    seen_far-by_orient placed.orient placed.dx placed.dy back x.low x.high y.low y.high far.xlo.low far.xlo.high far.ylo.low far.ylo.high far.xhi.low
    far.xhi.high far.yhi.low far.yhi.high

-- ---- a whole use

all_of : (from : UseSearch) → spots_to from (length (displacements from.used.grid))
    ≡ spots_at from.part_step from.size from.outer from.used (displacements from.used.grid) from.part from.element
all_of from =
    ap (λ (steps : List (ℤ × ℤ)). spots_at from.part_step from.size from.outer from.used steps from.part from.element)
    (take_all (length (displacements from.used.grid)) (displacements from.used.grid) (omega arith))

spot_cell : (step size : ℕ) (outer : Transform) (used : UseBody) (steps : List (ℤ × ℤ)) (part number : ℕ) (spot : Spot)
    → In spot (spots_at step size outer used steps part number) → spot.cell.0 ≡ used.child.0
spot_cell step size outer used [] part number spot none = absurd none
spot_cell step size outer used (displaced ∷ steps) part number spot (inl same) = sym (ap (λ (s : Spot). s.cell.0) same)
spot_cell step size outer used (displaced ∷ steps) part number spot (inr later) = spot_cell step size outer used steps (part + step)
    (number + size) spot later

-- the elements of a use that may meet the area were added
pub use_added : (sizes : List Size) (from : UseSearch) (old new : List Spot) → (size_at sizes from.used.child.0).hull ≡ Some from.hull
    → AddsSpots (CanBeDropped from) (spots_to from (length (displacements from.used.grid))) old new
    → AddsSpots (IsApart sizes from.outer from.back)
    (spots_at from.part_step from.size from.outer from.used (displacements from.used.grid) from.part from.element) old new
use_added sizes from old new is adds =
    let all = spots_at from.part_step from.size from.outer from.used (displacements from.used.grid) from.part from.element in
    let whole : AddsSpots (CanBeDropped from) all old new = subst (λ (spots : List Spot). AddsSpots (CanBeDropped from) spots old new)
    (all_of from) adds in
    record {
      kept = whole.kept;
      is = whole.is;
      sifted = sifted_weaken (CanBeDropped from) (IsApart sizes from.outer from.back) all whole.kept (λ spot stands drops hull there.
          let cell = spot_cell from.part_step from.size from.outer from.used (displacements from.used.grid) from.part from.element spot stands in
          let same : Some from.hull ≡ Some hull = sym is ∙ ap (λ (k : ℕ). (size_at sizes k).hull) (sym cell) ∙ there in
          let one : from.hull ≡ hull = cc in
          subst (λ (h : Rect). StandsApart h from.outer from.back spot) one drops) whole.sifted;
    }

-- a child without a hull has no elements that meet anything
pub use_dropped : (sizes : List Size) (step size : ℕ) (outer : Transform) (used : UseBody) (part number : ℕ) (back : Rect) (old : List Spot)
    → (size_at sizes used.child.0).hull ≡ None
    → AddsSpots (IsApart sizes outer back) (spots_at step size outer used (displacements used.grid) part number) old old
use_dropped sizes step size outer used part number back old none =
    spots_dropped (IsApart sizes outer back) (spots_at step size outer used (displacements used.grid) part number) old (λ spot stands hull there.
    let cell = spot_cell step size outer used (displacements used.grid) part number spot stands in
    let clash : None ≡ Some hull = sym none ∙ ap (λ (k : ℕ). (size_at sizes k).hull) (sym cell) ∙ there in
    absurd (cc))

-- ---- numbers on their way through 64 bits

-- what holds of numbers on that way holds of the numbers
pub as_kept : (count from to : ℕ) (step low high step' low' high' : ℤ) → step' ≡ step → low' ≡ low → high' ≡ high
    → ((n : ℕ) → n < count → low' <ℤ (pos n *ℤ step') → (pos n *ℤ step') <ℤ high' → (from ≤ n) × (n < to))
    → (n : ℕ) → n < count → low <ℤ (pos n *ℤ step) → (pos n *ℤ step) <ℤ high → (from ≤ n) × (n < to)
as_kept count from to step low high step' low' high' s l h all n below past before =
    all n below
    (subst (λ (z : ℤ). z <ℤ (pos n *ℤ step')) (sym l) (subst (λ (z : ℤ). low <ℤ (pos n *ℤ z)) (sym s) past))
    (subst (λ (z : ℤ). (pos n *ℤ step') <ℤ z) (sym h) (subst (λ (z : ℤ). (pos n *ℤ z) <ℤ high) (sym s) before))

-- multiples of equal steps between equal bounds
pub holds_same : (count count' : ℕ) (step step' low low' high high' : ℤ) (from to : ℕ) → HoldsMultiples count' step' low' high' from to
    → count' ≡ count → step' ≡ step
    → low' ≡ low → high' ≡ high → HoldsMultiples count step low high from to
holds_same count count' step step' low low' high high' from to holds c s l h =
    subst (λ (z : ℤ). HoldsMultiples count step low z from to) h
    (subst (λ (z : ℤ). HoldsMultiples count step z high' from to) l
    (subst (λ (z : ℤ). HoldsMultiples count z low' high' from to) s
    (subst (λ (n : ℕ). HoldsMultiples n step' low' high' from to) c holds)))

kept_32 : (z : ℤ) → FitsSigned w32 z → kept z ≡ z
kept_32 z fits = omega (arith, ints, fits)

-- how many columns a lawful grid has
pub kept_columns : (grid : Grid) → IsLawfulGrid grid → indices (kept grid.xlo) (kept grid.xhi) ≡ columns grid
kept_columns grid lawful = λ i. indices (kept_32 grid.xlo lawful.lawful.xlo i) (kept_32 grid.xhi lawful.lawful.xhi i)

-- and how many rows
pub kept_rows : (grid : Grid) → IsLawfulGrid grid → indices (kept grid.ylo) (kept grid.yhi) ≡ rows grid
kept_rows grid lawful = λ i. indices (kept_32 grid.ylo lawful.lawful.ylo i) (kept_32 grid.yhi lawful.lawful.yhi i)

-- the separations of a lawful grid
pub kept_shift : (z : ℤ) → IsShift z → kept z ≡ z
kept_shift z shift =
    let low : neg_ℤ (pos 134217716) ≤ℤ z = shift.low in
    let high : z ≤ℤ pos 134217716 = shift.high in
    omega (arith, ints)

-- a use that does not move its child too far moves it in reach
pub shift_in_reach : (t : Transform) → IsShift t.dx → IsShift t.dy → MovesInReach t
shift_in_reach t x y =
    let x0 : neg_ℤ (pos 134217716) ≤ℤ t.dx = x.low in let x1 : t.dx ≤ℤ pos 134217716 = x.high in
    let y0 : neg_ℤ (pos 134217716) ≤ℤ t.dy = y.low in let y1 : t.dy ≤ℤ pos 134217716 = y.high in
    record { dx = (omega (arith, ints), omega (arith, ints)); dy = (omega (arith, ints), omega (arith, ints)) }

-- a bound that lies in reach stays on that way
pub kept_reach : (z : ℤ) → IsInReach z → kept z ≡ z
kept_reach z reach = omega (arith, ints, reach.0, reach.1)

kept_far : (z : ℤ) → IsFarther z → kept z ≡ z
kept_far z far =
    let p : neg_ℤ (pos 432345564227567616) ≤ℤ z = far.low in let q : z ≤ℤ pos 432345564227567616 = far.high in omega (arith, ints)

kept_paintable : (z : ℤ) → IsPaintable z → kept z ≡ z
kept_paintable z is =
    let p : neg_ℤ (pos 67108858) ≤ℤ z = is.low in let q : z ≤ℤ pos 67108858 = is.high in omega (arith, ints)

-- what a side is seen at, less a side of the hull, fits
pub gap_fits : (a b : ℤ) → IsFarther a → IsPaintable b → FitsSigned w64 (kept a -ℤ kept b)
gap_fits a b far paintable =
    let p : neg_ℤ (pos 432345564227567616) ≤ℤ a = far.low in let q : a ≤ℤ pos 432345564227567616 = far.high in
    let r : neg_ℤ (pos 67108858) ≤ℤ b = paintable.low in let s : b ≤ℤ pos 67108858 = paintable.high in
    let low : neg_ℤ (pos 500000000000000000) ≤ℤ (a -ℤ b) = omega (arith, ints) in
    let high : (a -ℤ b) ≤ℤ pos 500000000000000000 = omega (arith, ints) in
    let keeps_a = sym (kept_far a far) in
    let keeps_b = sym (kept_paintable b paintable) in
    subst (λ (z : ℤ). FitsSigned w64 (z -ℤ kept b)) keeps_a (subst (λ (z : ℤ). FitsSigned w64 (a -ℤ z)) keeps_b (within (a -ℤ b) low high))
  where
    within : (z : ℤ) → neg_ℤ (pos 500000000000000000) ≤ℤ z → z ≤ℤ pos 500000000000000000 → FitsSigned w64 z
    within z low high = grind (arith, ints)
