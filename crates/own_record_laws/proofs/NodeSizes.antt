-- Measures and capacitances of nodes are of the size that a record may have.
use Rattle.own_record_laws.proofs.Common.{◌≡◌, ◌<◌, ◌*◌, ◌^◌, ℕ, ℤ, pos, negsuc, ◌≤ℤ◌, List, [], ◌∷◌, length, map, inl, inr, refl, sym, ◌∙◌, arith}
use Rattle.own_record_laws.proofs.Common.{w32, FitsSigned, ints, length-map, In, All-from_In, Covers, ClassRec, RawTech, IsWellFormed, IsClass}
use Rattle.own_record_laws.proofs.Common.{HasTypesOf, Layout, IsMaterial, Place, paint_range, IsNearPlace, IsSmallMeasure}
use Rattle.full_names.specs.ExtModel.declared.limits.TheConstants.{MEASURE_EDGE}
use Rattle.full_names.specs.ExtModel.Lawful.{IsMeasure, AreMeasures}
use Rattle.tree_records.specs.LayoutModel.Nodes as layout_nodes
use Rattle.tree_records.specs.LayoutModel.Technologies.{Class, capacitance, class_of}
use Rattle.tree_records.proofs.CellNodes.CapacitanceLaws.{product_small}

-- a number from 0 to a bound below the edge
pub measure_from : (z : ℤ) (most : ℕ) → pos 0 ≤ℤ z → z ≤ℤ pos most → most < MEASURE_EDGE → IsMeasure z
measure_from (pos n) most some few small = omega (arith, ints, few, small)
measure_from (negsuc n) most some few small = absurd (omega (arith, ints, some))

-- a place with material in a layout of sound paint is near
pub near_place : (raw : RawTech) (layout : Layout) → IsWellFormed raw → HasTypesOf raw layout
    → ((place : Place) → IsMaterial layout place → Covers paint_range place.square) → (place : Place) → IsMaterial layout place → IsNearPlace place
near_place raw layout well typed range place material =
    let type = typed place material in
    let below = well.type_planes (layout place) type.0 in
    let on = type.1 in
    let limit = well.planes_limit in
    let covers = range place material in
    let left = covers.right_of_xlo in
    let right = covers.left_of_xhi in
    let bottom = covers.above_ylo in
    let top = covers.below_yhi in
    record {
      plane = omega (arith, below, on, limit);
      x = (omega (arith, ints, left), omega (arith, ints, right));
      y = (omega (arith, ints, bottom), omega (arith, ints, top));
    }

-- The coordinate is one of paint: it fits a record.
pub record IsPaintCoordinate (z : ℤ) : Type 0 where
  pub fits : FitsSigned w32 z
  pub below : z ≤ℤ pos (2 ^ 26)

-- the coordinates of a square of the range of paint
pub paint_x : (place : Place) → Covers paint_range place.square → IsPaintCoordinate place.square.x
paint_x place covers =
    let left = covers.right_of_xlo in
    let right = covers.left_of_xhi in
    record { fits = omega (arith, ints, left, right); below = omega (arith, ints, right) }

-- both of them
pub paint_y : (place : Place) → Covers paint_range place.square → IsPaintCoordinate place.square.y
paint_y place covers =
    let bottom = covers.above_ylo in
    let top = covers.below_yhi in
    record { fits = omega (arith, ints, bottom, top); below = omega (arith, ints, top) }

-- each class adds little to a capacitance
pub capacitance_small : (raw : RawTech) (classes : List ClassRec) (measures : List (ℤ × ℤ)) → ((class : ClassRec) → In class classes → IsClass raw class)
    → ((measure : ℤ × ℤ) → In measure measures → IsSmallMeasure measure)
    → (pos 0 ≤ℤ capacitance (map class_of classes) measures) × (capacitance (map class_of classes) measures ≤ℤ pos (length classes * 2 ^ 84))
capacitance_small raw [] measures classed small = (omega (arith, ints), omega (arith, ints))
capacitance_small raw (class ∷ classes) [] classed small = (omega (arith, ints), omega (arith, ints))
capacitance_small raw (class ∷ classes) (measure ∷ measures) classed small =
    let is = classed class (inl refl) in
    let few = small measure (inl refl) in
    let most = few.most_area in
    let area = product_small measure.0 class.per_area few.some_area (omega (arith, ints, most)) is.per_area in
    let edges = product_small measure.1 class.per_perimeter few.some_edges few.most_edges is.per_perimeter in
    let rest = capacitance_small raw classes measures (λ c here. classed c (inr here)) (λ m here. small m (inr here)) in
    (omega (arith, ints, area.0, edges.0, rest.0), omega (arith, ints, area.1, edges.1, rest.1))

-- there is a pair for each class
one_for_each : (classes : List Class) (layout : Layout) (Within : Place → Type 0) (measures : List (ℤ × ℤ))
    → layout_nodes.AreMeasures classes layout Within measures → length measures ≡ length classes
one_for_each [] layout Within [] are = refl
one_for_each [] layout Within (measure ∷ measures) are = absurd are
one_for_each (class ∷ classes) layout Within [] are = absurd are
one_for_each (class ∷ classes) layout Within (measure ∷ measures) are =
    let rest = one_for_each classes layout Within measures are.2 in omega (arith, rest)

-- small measures, one for each class of a technology, are those of a record
pub record_measures : (raw : RawTech) (layout : Layout) (Within : Place → Type 0) (measures : List (ℤ × ℤ)) (classes : List ℕ)
    → length classes ≡ length raw.classes → layout_nodes.AreMeasures (map class_of raw.classes) layout Within measures
    → ((measure : ℤ × ℤ) → In measure measures → IsSmallMeasure measure) → AreMeasures (length classes) measures
record_measures raw layout Within measures classes many are small = record {
  count = one_for_each (map class_of raw.classes) layout Within measures are ∙ length-map raw.classes class_of ∙ sym many;
  areas = All-from_In (λ (measure : ℤ × ℤ). IsMeasure measure.0) measures
      (λ measure here. (let few = small measure here in measure_from measure.0 (2 ^ 61) few.some_area few.most_area (omega arith)));
  perimeters = All-from_In (λ (measure : ℤ × ℤ). IsMeasure measure.1) measures
      (λ measure here. (let few = small measure here in measure_from measure.1 (2 ^ 63) few.some_edges few.most_edges (omega arith)));
}
