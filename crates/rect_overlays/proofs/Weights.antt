-- How much there is left to do: it falls as a region is made a stack or cut in two.
use Rattle.rect_overlays.proofs.Common.{◌≡◌, inl, inr, ℕ, ◌+◌, ◌-◌, ◌<◌, ◌≤ℤ◌, ◌<ℤ◌, List, [], ◌∷◌, ◌++◌, map, ◌∙◌, ap, arith, ints, map-append}
use Rattle.rect_overlays.proofs.Common.{Rect, LiesWithin, IsProper, Cut, Column, Row, Regions, Span, low_half, high_half, IsInside, Region, AddsPart}
use Rattle.rect_overlays.proofs.Common.{Holds, AddsHalves, CutsInTwo}
use Rattle.std.proofs.Common.{◌*◌, ◌≤◌, ℤ}
use Rattle.std.specs.Prelude.{sum_by}
use Rattle.std.proofs.lemmas.List.Sums.{sum_by-append, sum_by-cons}
use Rattle.std.proofs.lemmas.Nat.{mul-le}
use Rattle.geo_core.specs.FiniteSets.Range.{extent}
use Rattle.geo_core.proofs.FiniteSets.Ranges.{extent_up}
use Rattle.rect_overlays.specs.steps.Regions.{span_of, IsPart}
use Rattle.rect_overlays.proofs.Halves.{low_is_proper, high_is_proper}

-- how many squares an area has
pub squares_in : Rect → ℕ
squares_in area = extent area.xlo area.xhi * extent area.ylo area.yhi

-- at most so many times a region of this area is cut or made a stack
pub weight : Rect → ℕ
weight area = 2 * squares_in area - 1

-- what all regions with these spans weigh
pub weights : List Span → ℕ
weights spans = sum_by (λ span. weight span.area) spans

some_extent : (low high : ℤ) → low <ℤ high → 1 ≤ extent low high
some_extent low high h = let e = extent_up low high (omega (arith, ints)) in omega (arith, ints)

extent_grows : (low high from to : ℤ) → low <ℤ high → from ≤ℤ low → high ≤ℤ to → extent low high ≤ extent from to
extent_grows low high from to h p q =
    let e = extent_up low high (omega (arith, ints)) in
    let f = extent_up from to (omega (arith, ints)) in
    omega (arith, ints)

extent_parts : (low middle high : ℤ) → low <ℤ middle → middle <ℤ high → extent low high ≡ extent low middle + extent middle high
extent_parts low middle high p q =
    let e = extent_up low middle (omega (arith, ints)) in
    let f = extent_up middle high (omega (arith, ints)) in
    let g = extent_up low high (omega (arith, ints)) in
    omega (arith, ints)

some_square : (area : Rect) → IsProper area → 1 ≤ squares_in area
unfolding squares_in
some_square area proper = mul-le 1 1 (extent area.xlo area.xhi) (extent area.ylo area.yhi) (some_extent area.xlo area.xhi proper.wide)
    (some_extent area.ylo area.yhi proper.high)

more_squares : (core area : Rect) → IsProper core → LiesWithin core area → squares_in core ≤ squares_in area
unfolding squares_in
more_squares core area proper within =
    mul-le (extent core.xlo core.xhi) (extent core.ylo core.yhi) (extent area.xlo area.xhi) (extent area.ylo area.yhi)
    (extent_grows core.xlo core.xhi area.xlo area.xhi proper.wide within.right_of_xlo within.left_of_xhi)
    (extent_grows core.ylo core.yhi area.ylo area.yhi proper.high within.above_ylo within.below_yhi)

squares_of_halves : (area : Rect) (cut : Cut) → IsInside area cut → squares_in area ≡ squares_in (low_half area cut) + squares_in (high_half area cut)
unfolding squares_in
squares_of_halves area (Column x) inside = let e = extent_parts area.xlo x area.xhi inside.0 inside.1 in rw e (omega arith)
squares_of_halves area (Row y) inside = let e = extent_parts area.ylo y area.yhi inside.0 inside.1 in rw e (omega arith)

halves_weigh_less : (area : Rect) (cut : Cut) → IsProper area → IsInside area cut
    → weight (low_half area cut) + weight (high_half area cut) < weight area
unfolding weight
halves_weigh_less area cut proper inside =
    let low = some_square (low_half area cut) (low_is_proper area cut proper inside) in
    let high = some_square (high_half area cut) (high_is_proper area cut proper inside) in
    let all = squares_of_halves area cut inside in
    omega arith

weighs_something : (area : Rect) → IsProper area → 0 < weight area
unfolding weight
weighs_something area proper = let some = some_square area proper in omega arith

part_weighs_less : (rects : List Rect) (members : List ℕ) (area : Rect) (part : Region) → IsPart rects members area part
    → weight part.area ≤ weight area
unfolding weight
part_weighs_less rects members area part is = let more = more_squares part.area area is.proper is.hull.within in omega arith

weights-push : (spans : List Span) (span : Span) → weights (spans ++ span ∷ []) ≡ weights spans + weight span.area
unfolding weights
weights-push spans span =
    let one = sum_by-cons (λ (s : Span). weight s.area) span [] in
    sum_by-append (λ (s : Span). weight s.area) spans (span ∷ []) ∙ omega (arith, one)

adds_weight : (rects : List Rect) (members : List ℕ) (area : Rect) (before after : List Region) → AddsPart rects members area before after
    → weights (map span_of after) ≤ weights (map span_of before) + weight area
adds_weight rects members area before after (inl (part, (is, e))) =
    let more = part_weighs_less rects members area part is in
    let whole : weights (map span_of after) ≡ weights (map span_of before) + weight part.area =
    ap (λ (v : List Region). weights (map span_of v)) e ∙ ap weights (map-append span_of before (part ∷ []))
    ∙ weights-push (map span_of before) (span_of part) in
    omega arith
adds_weight rects members area before after (inr (none, e)) =
    let same : weights (map span_of after) ≡ weights (map span_of before) = ap (λ (v : List Region). weights (map span_of v)) e in omega arith

-- a region less weighs less
pub less_without : (spans : List Span) (span : Span) → IsProper span.area → weights spans < weights (spans ++ span ∷ [])
less_without spans span proper =
    let some = weighs_something span.area proper in
    let all = weights-push spans span in
    omega arith

-- and so do its two halves
pub less_in_halves : (rects : List Rect) (rest : List Region) (region : Region) (cut : Cut) (before after : Regions) (span : Span)
    → IsProper region.area → IsInside region.area cut → Holds before rest → region.area ≡ span.area → CutsInTwo rects region cut before after
    → weights after.spans.items < weights (before.spans.items ++ span ∷ [])
less_in_halves rects rest region cut before after span proper inside h same cuts =
    let found = cuts rest h in
    let held = found.0 in
    let halves : AddsHalves rects region cut rest held = found.1.1 in
    let low = adds_weight rects region.members (low_half region.area cut) rest halves.0 halves.1.0 in
    let high = adds_weight rects region.members (high_half region.area cut) halves.0 held halves.1.1 in
    let less = halves_weigh_less region.area cut proper inside in
    let all = weights-push before.spans.items span in
    let at_first : weights before.spans.items ≡ weights (map span_of rest) = ap weights h.spans in
    let at_last : weights after.spans.items ≡ weights (map span_of held) = ap weights found.1.0.spans in
    let region_weight : weight region.area ≡ weight span.area = ap weight same in
    omega arith
