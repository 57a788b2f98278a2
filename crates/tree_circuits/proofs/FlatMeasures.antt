-- Flat nodes have the measures of the flat layout.
use Rattle.tree_circuits.proofs.Common.{◌≡◌, ◌≤◌, ℕ, zero, suc, ℤ, List, [], ◌∷◌, length, refl, sym, ◌∙◌, ap, subst, arith, length-map, In, Total-at}
use Rattle.tree_circuits.proofs.Common.{RawTech, KeepsRules, IsWellFormed, full_name, names_of, CellExt, NodeRec, Layout, IsArea, IsPerimeter}
use Rattle.tree_circuits.proofs.Common.{AreMeasures, Place, Class, rules_of, LONGEST_CHAIN, elements_of, ext_of, IsFlatNode, measure_of}
use Rattle.tree_circuits.proofs.Common.{AreOneFlatNode, HasNodePath, flat_layout, NamedTree, own_body, HasTreeRecords, IsCleanTree, depth_of}
use Rattle.tree_circuits.proofs.Common.{elements_for, is_named, RecordedQuantity, IsOfGroups}
use Rattle.std.proofs.Common.{◌<◌, Some, slice_get}
use Rattle.std.proofs.lemmas.Option.{slice_get_within}
use Rattle.tree_names.specs.TechModel.declared.raw.ClassRec.{ClassRec}
use Rattle.tree_names.specs.LayoutModel.Technologies.{class_of}
use Rattle.tree_names.proofs.TreeElements.{record_is, top_record}
use Rattle.tree_circuits.specs.SumLaws.{HoldsOfEach, HasSumOfPlaces, IsMeasured}
use Rattle.tree_circuits.proofs.ClosedSums.{clean_tree_closes, of_each}
use Rattle.tree_circuits.proofs.RecordedQuantities.{IsRecordedQuantity, capacitance_on}
use Rattle.tree_circuits.proofs.ElementSums.{elements_have}
use Rattle.tree_circuits.proofs.FlatTotals.{flat_total}
use Rattle.tree_circuits.proofs.GroupTests.{names_of_groups}

-- as many pairs as classes, each of its class, are the measures
measures_from : (classes : List Class) (layout : Layout) (Within : Place → Type 0) (measures : List (ℤ × ℤ)) → length measures ≡ length classes
    → ((position : ℕ) (class : Class) → slice_get classes position ≡ Some class
    → IsArea class.contains layout Within (measure_of position measures).0 × IsPerimeter class.contains layout Within (measure_of position measures).1)
    → AreMeasures classes layout Within measures
measures_from [] layout Within [] long each = tt
measures_from [] layout Within (measure ∷ measures) long each = absurd (omega (arith, long))
measures_from (class ∷ classes) layout Within [] long each = absurd (omega (arith, long))
measures_from (class ∷ classes) layout Within (measure ∷ measures) long each =
    let first = each zero class refl in (
      first.0,
      first.1,
      measures_from classes layout Within measures (omega (arith, long)) (λ position other there. each (suc position) other there),
    )

module _ (raw : RawTech) (exts : List CellExt) (tree : NamedTree) (root : CellExt) (node : NodeRec) (well : IsWellFormed raw) (rules : KeepsRules raw)
    (is : IsCleanTree raw tree) (has : HasTreeRecords raw exts tree) (found : ext_of exts (own_body tree).name ≡ Some root)
    (deep : depth_of tree ≤ LONGEST_CHAIN) where
  -- the names of the flat node are those of groups
  pub are_of_groups : (classes : ℕ) → IsFlatNode (elements_of exts root) classes node → IsOfGroups raw tree (is_named node)
  are_of_groups classes flat =
      names_of_groups raw well rules exts tree is has (elements_of exts root) (elements_for raw exts tree root has found deep) classes node flat

  -- what the elements have is what its places have
  pub sum_of_places : (classes : ℕ) → IsFlatNode (elements_of exts root) classes node → (place : Place) (path : List ℕ)
      → HasNodePath raw tree place path → In (full_name [] path) (names_of node) → (quantity : RecordedQuantity) → IsRecordedQuantity raw quantity
      → HasSumOfPlaces raw exts tree root node place quantity
  sum_of_places classes flat place path here named quantity quantities =
      let closed = clean_tree_closes raw well rules quantity quantities exts tree is has in
      Total-at (AreOneFlatNode raw tree place) (quantity.weight (flat_layout raw tree)) _ _
      (sym (elements_have raw exts tree root quantity node has found deep ∙ closed.closes (is_named node) (are_of_groups classes flat)))
      (flat_total raw well rules exts tree is has (elements_of exts root) (elements_for raw exts tree root has found deep) classes node flat place path here
      named quantity.weight closed.groups closed.are)

  -- the record of the top has the classes of the technology
  classes_are : length root.classes ≡ length (rules_of raw).classes
  classes_are =
      let top = record_is raw exts tree root (top_record raw exts tree has) found in
      ap (λ (values : List ℕ). length values) top.classes ∙ length-map raw.classes (λ (class : ClassRec). class.value)
      ∙ sym (length-map raw.classes class_of)

  -- and so the flat node is measured
  pub measured : IsFlatNode (elements_of exts root) (length root.classes) node → (place : Place) (path : List ℕ) → HasNodePath raw tree place path
      → In (full_name [] path) (names_of node) → IsMeasured raw tree place node
  measured flat place path here named =
      let layout = flat_layout raw tree in
      let Within = AreOneFlatNode raw tree place in
      let sums : HoldsOfEach raw (HasSumOfPlaces raw exts tree root node place) =
      of_each raw (HasSumOfPlaces raw exts tree root node place) (sum_of_places (length root.classes) flat place path here named) in
      let measures : AreMeasures (rules_of raw).classes layout Within node.measures =
      measures_from (rules_of raw).classes layout Within node.measures (flat.measured ∙ classes_are)
      (λ position class there.
      let inside = slice_get_within (rules_of raw).classes position class there in
      let below : position < length root.classes = subst (λ (n : ℕ). position < n) (sym classes_are) inside in (
        Total-at Within _ _ _ (sym (flat.areas position below)) (sums.areas position class there),
        Total-at Within _ _ _ (sym (flat.perimeters position below)) (sums.perimeters position class there),
      )) in
      record {
        measures = measures;
        cap = flat.cap ∙ sym sums.cap.1.1
            ∙ capacitance_on (rules_of raw).classes layout Within node.measures sums.cap.0 sums.cap.1.0 measures;
      }
