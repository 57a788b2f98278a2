-- Areas and perimeters of places between the edges of planes are small.
use Rattle.measures.proofs.Common.{◌≡◌, ◌<◌, ℕ, ℤ, pos, ◌*ℤ◌, List, [], ◌∷◌, map, length, ◌∙◌, ap, subst, arith, All, ints, length-map, In, Lists}
use Rattle.measures.proofs.Common.{sum_on, one_if, All-from_In, Layout, area_at, perimeter_at, IsArea, IsPerimeter, AreMeasures}
use Rattle.std.proofs.Common.{◌*◌, ◌^◌, ◌≤◌, neg_ℤ, ◌≤ℤ◌, Bool, true, false, not, cond}
use Rattle.std.proofs.Common.{inl, inr}
use Rattle.geo_core.specs.FiniteSets.Lists.{Distinct}
use Rattle.geo_core.specs.FiniteSets.Range.{IsBetween, nonnegative_part, extent, integer_range, pairs_of}
use Rattle.geo_core.specs.FiniteSets.Total.{Total}
use Rattle.geo_core.proofs.FiniteSets.Distincts.{Distinct-map, length-distinct}
use Rattle.geo_core.proofs.FiniteSets.Members.{In-map_source}
use Rattle.geo_core.proofs.FiniteSets.Ranges.{extent_up, Lists-integer_range, Lists-pairs_of, length-integer_range, length-pairs_of}
use Rattle.geo_core.proofs.FiniteSets.Totals.{Total-count, Total-le, Total-scale}
use Rattle.layout_model.specs.Places.{Place, neighbours}
use Rattle.layout_model.specs.Technologies.{Class}
use Rattle.measures.specs.Bounds.{IsNearPlace, IsSmallMeasure}

-- a place as three numbers
abbrev numbers_of : Place → ℤ × (ℤ × ℤ)
numbers_of place = (pos place.plane, (place.square.x, place.square.y))

-- the place of these numbers
abbrev place_at : ℤ × (ℤ × ℤ) → Place
place_at n = record { plane = nonnegative_part n.0; square = record { x = n.1.0; y = n.1.1 } }

same_place : (a b : Place) → numbers_of a ≡ numbers_of b → a ≡ b
same_place a b same =
    ap place_at same

-- the numbers of all places on so many planes, with coordinates from lo up to, and without, hi
abbrev numbers_within : ℕ → ℤ → ℤ → List (ℤ × (ℤ × ℤ))
numbers_within planes lo hi = pairs_of (integer_range (pos 0) (pos planes)) (pairs_of (integer_range lo hi) (integer_range lo hi))

extent_from_none : (n : ℕ) → extent (pos 0) (pos n) ≡ n
extent_from_none n = omega (arith, ints, extent_up (pos 0) (pos n) (omega (arith, ints)))

length-numbers_within : (planes : ℕ) (lo hi : ℤ) → length (numbers_within planes lo hi) ≡ planes * (extent lo hi * extent lo hi)
length-numbers_within planes lo hi =
    let line = integer_range lo hi in
    let plane = pairs_of line line in
    length-pairs_of (integer_range (pos 0) (pos planes)) plane
    ∙ ap (λ n. n * length plane) (length-integer_range (pos 0) (pos planes) ∙ extent_from_none planes)
    ∙ ap (λ n. planes * n) (length-pairs_of line line ∙ ap (λ n. n * n) (length-integer_range lo hi))

In-numbers_within : (planes : ℕ) (lo hi : ℤ) (place : Place) → place.plane < planes → IsBetween lo hi place.square.x → IsBetween lo hi place.square.y
    → In (numbers_of place) (numbers_within planes lo hi)
In-numbers_within planes lo hi place plane x y =
    let line = Lists-integer_range lo hi in
    let square = Lists-pairs_of (IsBetween lo hi) (IsBetween lo hi) (integer_range lo hi) (integer_range lo hi) line line in
    let all = Lists-pairs_of (IsBetween (pos 0) (pos planes)) (λ (p : ℤ × ℤ). IsBetween lo hi p.0 × IsBetween lo hi p.1) (integer_range (pos 0) (pos planes))
    (pairs_of (integer_range lo hi) (integer_range lo hi)) (Lists-integer_range (pos 0) (pos planes)) square in
    all.1 (numbers_of place) ((omega (arith, ints), omega (arith, ints, plane)), (x, y))

-- different places within bounds are so many at most
few_places : (planes : ℕ) (lo hi : ℤ) (places : List Place) → Distinct places
    → ((place : Place) → In place places → (place.plane < planes) × (IsBetween lo hi place.square.x × IsBetween lo hi place.square.y))
    → length places ≤ planes * (extent lo hi * extent lo hi)
few_places planes lo hi places distinct near =
    let numbers = map numbers_of places in
    let apart = Distinct-map numbers_of places (λ a b i j same. same_place a b same) distinct in
    let within : (n : ℤ × (ℤ × ℤ)) → In n numbers → In n (numbers_within planes lo hi) = λ n i.
    let source = In-map_source numbers_of n places i in
    let near = near source.0 source.1.0 in
    let P : ℤ × (ℤ × ℤ) → Type 0 = λ m. In m (numbers_within planes lo hi) in
    subst P source.1.1 (In-numbers_within planes lo hi source.0 near.0 near.1.0 near.1.1) in
    let fewer = length-distinct numbers (numbers_within planes lo hi) apart within in
    omega (arith, fewer, length-map places numbers_of, length-numbers_within planes lo hi)

-- no more places than this are near
few_near : (Within : Place → Type 0) → ((place : Place) → Within place → IsNearPlace place) → (places : List Place) → Lists Within places
    → length places ≤ 2 ^ 61
few_near Within near places lists =
    few_places 8 (neg_ℤ (pos (2 ^ 28))) (pos (2 ^ 28)) places lists.0
    (λ place i. let n = near place (lists.2 place i) in (n.plane, (n.x, n.y)))

-- from 0 to 1
abbrev IsUnit : ℤ → Type 0
IsUnit z = (pos 0 ≤ℤ z) × (z ≤ℤ pos 1)

one_if-unit : (b : Bool) → IsUnit (one_if b)
one_if-unit true = (omega (arith, ints), omega (arith, ints))
one_if-unit false = (omega (arith, ints), omega (arith, ints))

sum_of_units : {X : Type 0} (w : X → ℤ) (xs : List X) → ((x : X) → IsUnit (w x)) → (pos 0 ≤ℤ sum_on w xs) × (sum_on w xs ≤ℤ pos (length xs))
sum_of_units w [] unit = (omega (arith, ints), omega (arith, ints))
sum_of_units w (x ∷ xs) unit =
    let here = unit x in
    let rest = sum_of_units w xs unit in
    (omega (arith, ints, here.0, rest.0), omega (arith, ints, here.1, rest.1))

either_way : (b : Bool) (edges : ℤ) → (pos 0 ≤ℤ edges) × (edges ≤ℤ pos 4) → (pos 0 ≤ℤ cond b edges (pos 0)) × (cond b edges (pos 0) ≤ℤ pos 4)
either_way true edges most = most
either_way false edges most = (omega (arith, ints), omega (arith, ints))

perimeter_of_place : (in_class : ℕ → Bool) (layout : Layout) (place : Place)
    → (pos 0 ≤ℤ perimeter_at in_class layout place) × (perimeter_at in_class layout place ≤ℤ pos 4)
perimeter_of_place in_class layout place =
    let edges = sum_on (λ (n : Place). one_if (not (in_class (layout n)))) (neighbours place) in
    let most = sum_of_units (λ (n : Place). one_if (not (in_class (layout n)))) (neighbours place) (λ n. one_if-unit (not (in_class (layout n)))) in
    either_way (in_class (layout place)) edges most

-- a weight from 0 to a bound has a total from 0 to the bound for each place
total_bounds : (Within : Place → Type 0) (w : Place → ℤ) (most : ℕ) (n : ℤ) (places : List Place) → Lists Within places
    → ((place : Place) → (pos 0 ≤ℤ w place) × (w place ≤ℤ pos most)) → Total Within w n → (pos 0 ≤ℤ n) × (n ≤ℤ (pos most *ℤ pos (length places)))
total_bounds Within w most n places lists bounds total =
    let count = Total-count Within places lists in
    let high = Total-scale Within (pos most) (λ (p : Place). pos 1) (pos (length places)) count in
    let low = Total-scale Within (pos 0) (λ (p : Place). pos 1) (pos (length places)) count in
    let above = Total-le Within (λ (p : Place). pos 0 *ℤ pos 1) w (pos 0 *ℤ pos (length places)) n (λ p h. omega (arith, ints, (bounds p).0)) low total in
    let below = Total-le Within w (λ (p : Place). pos most *ℤ pos 1) n (pos most *ℤ pos (length places)) (λ p h. omega (arith, ints, (bounds p).1)) total
    high in
    (omega (arith, ints, above), below)

small_measure : (class : Class) (layout : Layout) (Within : Place → Type 0) (measure : ℤ × ℤ) → ((place : Place) → Within place → IsNearPlace place)
    → IsArea class.contains layout Within measure.0 → IsPerimeter class.contains layout Within measure.1 → IsSmallMeasure measure
small_measure class layout Within measure near area perimeter =
    let places = area.0 in
    let lists = area.1.0 in
    let few = few_near Within near places lists in
    let squares = total_bounds Within (area_at class.contains layout) 1 measure.0 places lists (λ p. one_if-unit (class.contains (layout p))) area in
    let edges = total_bounds Within (perimeter_at class.contains layout) 4 measure.1 places lists (perimeter_of_place class.contains layout) perimeter in
    record {
      some_area = squares.0;
      most_area = omega (arith, ints, squares.1, few);
      some_edges = edges.0;
      most_edges = omega (arith, ints, edges.1, few);
    }

each_small : (classes : List Class) (layout : Layout) (Within : Place → Type 0) (measures : List (ℤ × ℤ))
    → ((place : Place) → Within place → IsNearPlace place) → AreMeasures classes layout Within measures
    → (measure : ℤ × ℤ) → In measure measures → IsSmallMeasure measure
each_small [] layout Within [] near m measure i = absurd i
each_small [] layout Within (x ∷ xs) near m measure i = absurd m
each_small (class ∷ classes) layout Within [] near m measure i = absurd i
each_small (class ∷ classes) layout Within (x ∷ xs) near m measure (inl e) =
    subst IsSmallMeasure e (small_measure class layout Within x near m.0 m.1)
each_small (class ∷ classes) layout Within (x ∷ xs) near m measure (inr i) = each_small classes layout Within xs near m.2 measure i

-- what near places measure is small
pub measures_are_small : (classes : List Class) (layout : Layout) (Within : Place → Type 0) (measures : List (ℤ × ℤ))
    → ((place : Place) → Within place → IsNearPlace place) → AreMeasures classes layout Within measures → All IsSmallMeasure measures
measures_are_small classes layout Within measures near m = All-from_In IsSmallMeasure measures (each_small classes layout Within measures near m)
