-- Nodes with the names of groups, their places and their sums are the flat nodes.
use Rattle.flatten.proofs.Common.{◌≡◌, ℕ, suc, ◌<◌, List, [], ◌∷◌, length, map, inl, refl, sym, ◌∙◌, ap, subst, arith, Some, slice_get, Less}
use Rattle.flatten.proofs.Common.{slice_get_within, same_Some, In, In-slice_get, slice_get-below, NodeRec, name_cmp, names_of, Element}
use Rattle.flatten.proofs.Common.{AreInNameOrder, measure_of, IsPlaced, IsFullNameList, AreLabels, label_of, group_of, AreNamed, NodeSum}
use Rattle.finite_sets.proofs.Places.{slice_get-map_source, map-pointwise}
use Rattle.circuit_model.specs.FullNames.{IsFullName, AreOneNode}
use Rattle.circuit_model.specs.FlatNodes.{IsFlatNode, AreFlatNodes}
use Rattle.flatten.proofs.GroupLaws.{in_group, from_group, group_in_order, one_node, one_label}
use Rattle.flatten.proofs.NodeLaws.{node_at, node_found, before_node}
use Rattle.flatten.proofs.PlaceLaws.{place_of}
use Rattle.flatten.specs.steps.Sums.{AreSums}
use Rattle.flatten.specs.steps.Filled.{with_sum, AreFilled}

-- names that stand in order at any two places stand in order
order_from_places : (names : List (List ℕ)) → ((a b : ℕ) (x y : List ℕ) → a < b → slice_get names a ≡ Some x → slice_get names b ≡ Some y
    → name_cmp x y ≡ Less)
    → AreInNameOrder names
order_from_places [] before = tt
order_from_places (x ∷ []) before = tt
order_from_places (x ∷ y ∷ names) before =
    (before 0 1 x y (omega arith) refl refl, order_from_places (y ∷ names) (λ a b p q less h k. before (suc a) (suc b) p q (omega (arith, less)) h k))

-- nodes with their sums have their names still
pub named_filled : {list : List (List ℕ)} {labels : List ℕ} {count : ℕ} {nodes new : List NodeRec} {sums : List NodeSum} → length sums ≡ length nodes
    → AreFilled nodes sums new → AreNamed list labels count nodes → AreNamed list labels count new
named_filled {list} {labels} {count} {nodes} {new} {sums} many filled named = record {
  groups = map-pointwise names_of names_of new nodes filled.long
      (λ k x y p q. (let within = slice_get_within nodes k y q in
      let s = slice_get-below sums k (omega (arith, within, many)) in
      let is : x ≡ with_sum y s.0 = same_Some x (with_sum y s.0) (sym p ∙ filled.each k y s.0 q s.1) in
      ap names_of is))
      ∙ named.groups;
}

module _ {elements : List Element} {list : List (List ℕ)} (is_list : IsFullNameList elements list) {labels : List ℕ} {count classes : ℕ}
    (are : AreLabels elements list labels count) {nodes new : List NodeRec} {sums : List NodeSum} (many : length sums ≡ length nodes)
    (filled : AreFilled nodes sums new) (named : AreNamed list labels count new) (placed : (node : NodeRec) → In node nodes → IsPlaced elements node)
    (summed : AreSums elements list labels count classes sums) where
  -- a node has the names that are of one with its preferred one
  names_are : (number : ℕ) (node : NodeRec) → names_of node ≡ group_of list labels number → (name : List ℕ)
      → (In name (names_of node) → IsFullName elements name × AreOneNode elements node.name name)
      × (IsFullName elements name × AreOneNode elements node.name name → In name (names_of node))
  names_are number node group name =
      let P : List ℕ → List (List ℕ) → Type 0 = λ z l. In z l in
      let first = from_group list labels number node.name is_list.in_order (subst (P node.name) group (inl refl)) in (
        (λ h. (let r = from_group list labels number name is_list.in_order (subst (P name) group h) in
            ((is_list.all name).0 r.0, one_node elements list labels count is_list.in_order are node.name name first.0 r.0 (first.1 ∙ sym r.1)))),
        (λ h. (let among = (is_list.all name).1 h.0 in
            subst (P name) (sym group) (in_group list labels number name are.long among
            (sym (one_label elements list labels count is_list.in_order are node.name name first.0 among h.1) ∙ first.1)))),
      )

  flat_node : (number : ℕ) (node : NodeRec) → slice_get new number ≡ Some node → IsFlatNode elements classes node
  flat_node number node at =
      let group = (node_at named number node at).names in
      let within = slice_get_within new number node at in
      let long = filled.long in
      let old = slice_get-below nodes number (omega (arith, within, long)) in
      let sum = slice_get-below sums number (omega (arith, within, long, many)) in
      let is : node ≡ with_sum old.0 sum.0 = same_Some node (with_sum old.0 sum.0) (sym at ∙ filled.each number old.0 sum.0 old.1 sum.1) in
      let where_old = placed old.0 (In-slice_get nodes number old.0 old.1) in
      let of = summed.each number sum.0 node sum.1 group in
      let O : List (List ℕ) → Type 0 = AreInNameOrder in
      let P : NodeRec → Type 0 = IsPlaced elements in
      let moved : IsPlaced elements (with_sum old.0 sum.0) = record {
        element = where_old.element;
        part = where_old.part;
        first = where_old.first;
        carrier = where_old.carrier;
        point = where_old.point;
        kind = where_old.kind;
      } in
      record {
        in_order = subst O (sym group) (group_in_order list labels number is_list.in_order);
        names = λ name. names_are number node group name;
        place = subst P (sym is) moved;
        cap = ap (λ (n : NodeRec). n.cap) is ∙ of.cap;
        measured = ap (λ (n : NodeRec). length n.measures) is ∙ of.measured;
        areas = λ class inside. ap (λ (n : NodeRec). (measure_of class n.measures).0) is ∙ of.areas class inside;
        perimeters = λ class inside. ap (λ (n : NodeRec). (measure_of class n.measures).1) is ∙ of.perimeters class inside;
      }

  pub flat_nodes_are : AreFlatNodes elements classes new
  flat_nodes_are = record {
    in_order = order_from_places (map (λ node. node.name) new)
        (λ a b x y less p q. (let first = slice_get-map_source (λ (node : NodeRec). node.name) new a x p in
        let second = slice_get-map_source (λ (node : NodeRec). node.name) new b y q in
        let P : List ℕ → Type 0 = λ z. name_cmp z y ≡ Less in
        let Q : List ℕ → Type 0 = λ z. name_cmp first.0.name z ≡ Less in
        subst P first.1.1 (subst Q second.1.1
        (before_node elements list labels count new is_list.in_order are named a b first.0 second.0 less first.1.0 second.1.0))));
    sound = λ node here. (let r = place_of node new here in flat_node r.0 node r.1.1);
    total = λ name full.
        (let among = (is_list.all name).1 full in
        let number = label_of list labels name in
        let r = node_found elements list labels count new is_list.in_order are named name among in
        let group = (node_at named number r.0 r.1.0).names in
        let P : List (List ℕ) → Type 0 = λ l. In name l in
        (r.0, (In-slice_get new number r.0 r.1.0, subst P (sym group) (in_group list labels number name are.long among refl))));
  }
