-- What records have of a weight: nodes what the weight is on their places, and merges what groups add.
use Rattle.tree_circuits.proofs.Common.{◌≡◌, ℕ, zero, suc, ℤ, pos, ◌+ℤ◌, Bool, true, List, [], ◌∷◌, map, refl, sym, ◌∙◌, ap, subst, Some, slice_get}
use Rattle.tree_circuits.proofs.Common.{sum_on, Total, Total-unique, Label, RawTech, NodeRec, Layout, IsArea, IsPerimeter, AreMeasures, Place, Class}
use Rattle.tree_circuits.proofs.Common.{rules_of, AreOneNamedNode, measure_of, NamedTree, merge_of, RecordedQuantity, recorded_cap, recorded_area}
use Rattle.tree_circuits.proofs.Common.{recorded_perimeter}
use Rattle.std.proofs.Common.{◌*ℤ◌}
use Rattle.std.specs.Prelude.{◌&&◌}
use Rattle.std.specs.List.{list_all}
use Rattle.std.specs.Ordering.{int_eq}
use Rattle.std.proofs.lemmas.Bool.{and_parts}
use Rattle.std.proofs.lemmas.Bool.Decides.{Decides-int_eq}
use Rattle.finite_sets.specs.Lists.{Lists}
use Rattle.finite_sets.proofs.Sums.{sum_on-add, sum_on-zero, sum_on-scale_right}
use Rattle.finite_sets.proofs.Totals.{Total-of_list}
use Rattle.tree_names.specs.LayoutModel.Technologies.{capacitance}
use Rattle.tree_names.specs.CellNodes.NodeRecords.{IsNodeRecord}
use Rattle.tree_names.specs.TreeRecords.Merges.{Adjustment, MemberGroup, IsMemberGroup, AreAdjustments, zero_adjustment, is_zero_adjustment}
use Rattle.tree_names.specs.TreeRecords.PlaceWeights.{area_weight, perimeter_weight, capacitance_weight, IsAdjustment}

-- what a merge with these amounts has
abbrev pub amount_of : RecordedQuantity → Adjustment → ℤ
amount_of quantity amounts = quantity.of_merge (merge_of [] [] amounts)

-- A quantity of records: what it has of a node is what the weight is on the node's places, and what it has of a merge is what the merge's
-- group adds, whatever its paths are.
pub record IsRecordedQuantity (raw : RawTech) (quantity : RecordedQuantity) : Type 0 where
  pub nodes : (layout : Layout) (labels : List Label) (least : Place) (node : NodeRec) (total : ℤ) → IsNodeRecord raw layout labels least node
      → Total (AreOneNamedNode raw layout labels least) (quantity.weight layout) total → total ≡ quantity.of_node node
  pub merges : (first second : List ℕ) (amounts : Adjustment) → quantity.of_merge (merge_of first second amounts) ≡ amount_of quantity amounts
  pub nothing : amount_of quantity (zero_adjustment (rules_of raw).classes) ≡ pos 0
  pub none : (amounts : Adjustment) → is_zero_adjustment amounts ≡ true → amount_of quantity amounts ≡ pos 0
  pub adjusts : (tree : NamedTree) (group : MemberGroup) (is : IsMemberGroup raw tree group)
      → IsAdjustment raw quantity.weight tree is.name group.members (amount_of quantity group.adjustment)

-- ---- measures in one class

-- the measures in a class
class_measures : (classes : List Class) (layout : Layout) (Within : Place → Type 0) (measures : List (ℤ × ℤ)) (position : ℕ) (class : Class)
    → AreMeasures classes layout Within measures → slice_get classes position ≡ Some class
    → IsArea class.contains layout Within (measure_of position measures).0 × IsPerimeter class.contains layout Within (measure_of position measures).1
class_measures [] layout Within measures position class are there = cc
class_measures (first ∷ classes) layout Within [] position class are there = absurd are
class_measures (first ∷ classes) layout Within (measure ∷ measures) zero class are there =
    let same : first ≡ class = cc in
    let P : Class → Type 0 = λ c. IsArea c.contains layout Within measure.0 × IsPerimeter c.contains layout Within measure.1 in
    subst P same (are.0, are.1)
class_measures (first ∷ classes) layout Within (measure ∷ measures) (suc position) class are there =
    class_measures classes layout Within measures position class are.2 there

-- what a group adds in a class
class_adjustments : (raw : RawTech) (classes : List Class) (tree : NamedTree) (name : List ℕ) (members : List (List ℕ)) (measures : List (ℤ × ℤ))
    (position : ℕ) (class : Class) → AreAdjustments raw classes tree name members measures → slice_get classes position ≡ Some class
    → IsAdjustment raw (area_weight class) tree name members (measure_of position measures).0
    × IsAdjustment raw (perimeter_weight class) tree name members (measure_of position measures).1
class_adjustments raw [] tree name members measures position class are there = cc
class_adjustments raw (first ∷ classes) tree name members [] position class are there = absurd are
class_adjustments raw (first ∷ classes) tree name members (measure ∷ measures) zero class are there =
    let same : first ≡ class = cc in
    let P : Class → Type 0 = λ c. IsAdjustment raw (area_weight c) tree name members measure.0
    × IsAdjustment raw (perimeter_weight c) tree name members measure.1 in
    subst P same (are.0, are.1)
class_adjustments raw (first ∷ classes) tree name members (measure ∷ measures) (suc position) class are there =
    class_adjustments raw classes tree name members measures position class are.2 there

-- nothing in each class is nothing in one
nothing_at : (classes : List Class) (position : ℕ) → measure_of position (map (λ class. (pos 0, pos 0)) classes) ≡ (pos 0, pos 0)
nothing_at [] position = refl
nothing_at (class ∷ classes) zero = refl
nothing_at (class ∷ classes) (suc position) = nothing_at classes position

-- the test of one measure
abbrev is_none : ℤ × ℤ → Bool
is_none measure = int_eq measure.0 (pos 0) && int_eq measure.1 (pos 0)

-- and so are measures that are all nothing
none_at : (measures : List (ℤ × ℤ)) (position : ℕ) → list_all is_none measures ≡ true
    → ((measure_of position measures).0 ≡ pos 0) × ((measure_of position measures).1 ≡ pos 0)
none_at [] position all = (refl, refl)
none_at (measure ∷ measures) zero all =
    let here = and_parts (int_eq measure.0 (pos 0)) (int_eq measure.1 (pos 0)) (and_parts (is_none measure) (list_all is_none measures) all).0 in
    ((Decides-int_eq measure.0 (pos 0)).0 here.0, (Decides-int_eq measure.1 (pos 0)).0 here.1)
none_at (measure ∷ measures) (suc position) all = none_at measures position (and_parts (is_none measure) (list_all is_none measures) all).1

-- ---- capacitances

-- the capacitance on places is that of their measures
pub capacitance_on : (classes : List Class) (layout : Layout) (Within : Place → Type 0) (measures : List (ℤ × ℤ)) (places : List Place)
    → Lists Within places → AreMeasures classes layout Within measures → sum_on (capacitance_weight classes layout) places ≡ capacitance classes measures
capacitance_on [] layout Within [] places lists are = sum_on-zero places
capacitance_on [] layout Within (measure ∷ measures) places lists are = absurd are
capacitance_on (class ∷ classes) layout Within [] places lists are = absurd are
capacitance_on (class ∷ classes) layout Within (measure ∷ measures) places lists are =
    let area : Place → ℤ = area_weight class layout in
    let perimeter : Place → ℤ = perimeter_weight class layout in
    let by_area : Place → ℤ = λ place. area place *ℤ class.per_area in
    let by_perimeter : Place → ℤ = λ place. perimeter place *ℤ class.per_perimeter in
    let rest : Place → ℤ = capacitance_weight classes layout in
    sum_on-add (λ place. by_area place +ℤ by_perimeter place) rest places
    ∙ ap (λ z. z +ℤ sum_on rest places) (sum_on-add by_area by_perimeter places)
    ∙ ap (λ z. (z +ℤ sum_on by_perimeter places) +ℤ sum_on rest places)
    (sum_on-scale_right area class.per_area places ∙ ap (λ z. z *ℤ class.per_area) (Total-of_list Within area measure.0 places are.0 lists))
    ∙ ap (λ z. ((measure.0 *ℤ class.per_area) +ℤ z) +ℤ sum_on rest places)
    (sum_on-scale_right perimeter class.per_perimeter places ∙ ap (λ z. z *ℤ class.per_perimeter) (Total-of_list Within perimeter measure.1 places are.1 lists))
    ∙ ap (λ z. ((measure.0 *ℤ class.per_area) +ℤ (measure.1 *ℤ class.per_perimeter)) +ℤ z) (capacitance_on classes layout Within measures places lists are.2)

-- ---- the quantities

module _ (raw : RawTech) where
  -- that of capacitances
  pub cap_is_recorded : IsRecordedQuantity raw (recorded_cap raw)
  cap_is_recorded = record {
    nodes = λ layout labels least node total is sum.
        sym sum.1.1 ∙ capacitance_on (rules_of raw).classes layout (AreOneNamedNode raw layout labels least) node.measures sum.0 sum.1.0 is.measures
        ∙ sym is.cap;
    merges = λ first second amounts. refl;
    nothing = refl;
    none = λ amounts all. (Decides-int_eq amounts.cap (pos 0)).0 (and_parts (int_eq amounts.cap (pos 0)) (list_all is_none amounts.measures) all).0;
    adjusts = λ tree group is. is.cap;
  }

  module _ (position : ℕ) (class : Class) (there : slice_get (rules_of raw).classes position ≡ Some class) where
    -- that of areas in a class
    pub area_is_recorded : IsRecordedQuantity raw (recorded_area position class)
    area_is_recorded = record {
      nodes = λ layout labels least node total is sum.
          let Within = AreOneNamedNode raw layout labels least in
          Total-unique Within (area_weight class layout) total (measure_of position node.measures).0 sum
          (class_measures (rules_of raw).classes layout Within node.measures position class is.measures there).0;
      merges = λ first second amounts. refl;
      nothing = ap (λ (measure : ℤ × ℤ). measure.0) (nothing_at (rules_of raw).classes position);
      none = λ amounts all.
          (none_at amounts.measures position (and_parts (int_eq amounts.cap (pos 0)) (list_all is_none amounts.measures) all).1).0;
      adjusts = λ tree group is.
          (class_adjustments raw (rules_of raw).classes tree is.name group.members group.adjustment.measures position class is.measures there).0;
    }

    -- that of perimeters in a class
    pub perimeter_is_recorded : IsRecordedQuantity raw (recorded_perimeter position class)
    perimeter_is_recorded = record {
      nodes = λ layout labels least node total is sum.
          let Within = AreOneNamedNode raw layout labels least in
          Total-unique Within (perimeter_weight class layout) total (measure_of position node.measures).1 sum
          (class_measures (rules_of raw).classes layout Within node.measures position class is.measures there).1;
      merges = λ first second amounts. refl;
      nothing = ap (λ (measure : ℤ × ℤ). measure.1) (nothing_at (rules_of raw).classes position);
      none = λ amounts all.
          (none_at amounts.measures position (and_parts (int_eq amounts.cap (pos 0)) (list_all is_none amounts.measures) all).1).1;
      adjusts = λ tree group is.
          (class_adjustments raw (rules_of raw).classes tree is.name group.members group.adjustment.measures position class is.measures there).1;
    }
