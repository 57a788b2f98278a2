-- Terminals by the names of their nodes.
use Rattle.flatten.proofs.Common.{◌≡◌, ℕ, ◌<◌, pos, Bool, cond, eqb, List, [], ◌∷◌, length, map, get_or, inl, inr, refl, sym, ◌∙◌, ap, subst, arith}
use Rattle.flatten.proofs.Common.{eq-eqb, Some, All, slice_get, All-from_In, option_map, bytes_eq, Less, eqb-true, slice_get-map, slice_get-get_or}
use Rattle.flatten.proofs.Common.{get_or_from_slice_get, both_ways, In, sum_on, In-map, In-map_source, sum_on-map, sum_on-same, slice_get-below}
use Rattle.flatten.proofs.Common.{NodeRec, TermRec, name_cmp, Element, name_in, AreInNameOrder, node_name, label_of, AreNamed, AreSpotsOf}
use Rattle.flatten.proofs.Common.{AreNamedOf, element_at, cell_at, FullNames, Spot, Local, IsFullNameList, AreNames, IsSpotOf, elements_in, Side}
use Rattle.flatten.proofs.Common.{side_of, length_at, AreAscending, AreJoined, name_of_node, named_side, AreFlatTerminals}
use Rattle.circuit_model.specs.FlatFets.{side_name}
use Rattle.flatten.specs.NameClasses.Classes.{AreLabels}
use Rattle.flatten.proofs.GroupLaws.{label_below}
use Rattle.flatten.proofs.LabelLaws.{bytes_eq-same, bytes_eq-true}
use Rattle.flatten.proofs.NodeLaws.{node_found, before_node, one_number}
use Rattle.flatten.proofs.PlaceLaws.{place_of, AreAlong-at}
use Rattle.flatten.proofs.SpotLaws.{spot_named}
use Rattle.flatten.specs.steps.Spots.{AreLabelsOf}

-- the name of a node that stands at a number
pub name_at_node : (nodes : List NodeRec) (number : ℕ) (node : NodeRec) → slice_get nodes number ≡ Some node → name_of_node nodes number ≡ node.name
name_at_node nodes number node at =
    get_or_from_slice_get (map (λ (n : NodeRec). n.name) nodes) number node.name []
    (slice_get-map (λ (n : NodeRec). n.name) nodes number ∙ ap (option_map (λ (n : NodeRec). n.name)) at)

module _ (elements : List Element) (list : List (List ℕ)) (labels : List ℕ) (nodes : List NodeRec) (ordered : AreInNameOrder list)
    (are : AreLabels elements list labels (length nodes)) (named : AreNamed list labels (length nodes) nodes) where
  -- a name is of the node of its label
  pub node_name_is : (name : List ℕ) → In name list → node_name nodes name ≡ name_of_node nodes (label_of list labels name)
  node_name_is name here =
      let r = node_found elements list labels (length nodes) nodes ordered are named name here in
      r.1.1 ∙ sym (name_at_node nodes (label_of list labels name) r.0 r.1.0)

  -- nodes of greater numbers have later names
  earlier : (a b : ℕ) → a < b → b < length nodes → name_cmp (name_of_node nodes a) (name_of_node nodes b) ≡ Less
  earlier a b less inside =
      let x = slice_get-below nodes a (omega (arith, less, inside)) in
      let y = slice_get-below nodes b inside in
      let P : List ℕ → Type 0 = λ z. name_cmp z (name_of_node nodes b) ≡ Less in
      let Q : List ℕ → Type 0 = λ z. name_cmp x.0.name z ≡ Less in
      subst P (sym (name_at_node nodes a x.0 x.1)) (subst Q (sym (name_at_node nodes b y.0 y.1))
      (before_node elements list labels (length nodes) nodes ordered are named a b x.0 y.0 less x.1 y.1))

  -- nodes with one name are one
  same_number : (a b : ℕ) → a < length nodes → b < length nodes → name_of_node nodes a ≡ name_of_node nodes b → a ≡ b
  same_number a b p q same =
      let x = slice_get-below nodes a p in
      let y = slice_get-below nodes b q in
      one_number elements list labels (length nodes) nodes ordered are named a b x.0 y.0 x.1 y.1
      (sym (name_at_node nodes a x.0 x.1) ∙ same ∙ name_at_node nodes b y.0 y.1)

  -- joined sides are in name order
  in_order : (joined : List Side) → AreAscending joined → ((side : Side) → In side joined → side.node < length nodes)
      → AreInNameOrder (map (λ side. side.node) (map (named_side nodes) joined))
  in_order [] up inside = tt
  in_order (side ∷ []) up inside = tt
  in_order (side ∷ next ∷ joined) up inside =
      (earlier side.node next.node up.0 (inside next (inr (inl refl))), in_order (next ∷ joined) up.1 (λ other h. inside other (inr h)))

  module _ (element : Element) (terminals : List TermRec) (within : (side : TermRec) → In side terminals → In (name_in element side.node) list)
      (joined : List Side) (joins : AreJoined (map (side_of list labels element) terminals) joined) where
    label : TermRec → ℕ
    label side = label_of list labels (name_in element side.node)

    side_is : (side : TermRec) → In side terminals → side_name nodes element side ≡ name_of_node nodes (label side)
    unfolding label
    side_is side here = node_name_is (name_in element side.node) (within side here)

    -- the terminal that a joined side's node comes from
    from_terminal : (node : ℕ) → In node (map (λ side. side.node) joined) → (side : TermRec) × (In side terminals × (label side ≡ node))
    unfolding label
    from_terminal node here =
        let s = In-map_source (λ (side : Side). side.node) node (map (side_of list labels element) terminals) ((joins.nodes node).0 here) in
        let t = In-map_source (side_of list labels element) s.0 terminals s.1.0 in
        (t.0, (t.1.0, ap (λ (side : Side). side.node) t.1.1 ∙ s.1.1))

    -- nodes of joined sides are nodes
    joined_within : (side : Side) → In side joined → side.node < length nodes
    unfolding label
    joined_within side here =
        let t = from_terminal side.node (In-map (λ (s : Side). s.node) side joined here) in
        let below = label_below elements list labels (length nodes) ordered are (name_in element t.0.node) (within t.0 t.1.0) in
        omega (arith, below, t.1.1)

    flat_names : (name : List ℕ) → In name (map (λ side. side.node) (map (named_side nodes) joined)) → In name (map (side_name nodes element) terminals)
    flat_names name here =
        let f = In-map_source (λ (side : TermRec). side.node) name (map (named_side nodes) joined) here in
        let s = In-map_source (named_side nodes) f.0 joined f.1.0 in
        let t = from_terminal s.0.node (In-map (λ (side : Side). side.node) s.0 joined s.1.0) in
        let is : side_name nodes element t.0 ≡ name = side_is t.0 t.1.0 ∙ ap (name_of_node nodes) t.1.1 ∙ ap (λ (side : TermRec). side.node) s.1.1 ∙ f.1.1 in
        let P : List ℕ → Type 0 = λ z. In z (map (side_name nodes element) terminals) in
        subst P is (In-map (side_name nodes element) t.0 terminals t.1.0)

    flat_names_back : (name : List ℕ) → In name (map (side_name nodes element) terminals) → In name (map (λ side. side.node) (map (named_side nodes) joined))
    unfolding label
    flat_names_back name here =
        let t = In-map_source (side_name nodes element) name terminals here in
        let among : In (label t.0) (map (λ side. side.node) joined) = (joins.nodes (label t.0)).1
        (In-map (λ (side : Side). side.node) (side_of list labels element t.0) (map (side_of list labels element) terminals)
        (In-map (side_of list labels element) t.0 terminals t.1.0)) in
        let s = In-map_source (λ (side : Side). side.node) (label t.0) joined among in
        let is : name_of_node nodes s.0.node ≡ name = ap (name_of_node nodes) s.1.1 ∙ sym (side_is t.0 t.1.0) ∙ t.1.1 in
        let P : List ℕ → Type 0 = λ z. In z (map (λ side. side.node) (map (named_side nodes) joined)) in
        subst P is (In-map (λ (side : TermRec). side.node) (named_side nodes s.0) (map (named_side nodes) joined)
        (In-map (named_side nodes) s.0 joined s.1.0))

    -- a terminal's label is a node's number exactly where it has the node's name
    one_test : (number : ℕ) → number < length nodes → (side : TermRec) → In side terminals
        → eqb (label side) number ≡ bytes_eq (name_of_node nodes number) (side_name nodes element side)
    unfolding label
    one_test number inside side here =
        let below = label_below elements list labels (length nodes) ordered are (name_in element side.node) (within side here) in
        both_ways (eqb (label side) number) (bytes_eq (name_of_node nodes number) (side_name nodes element side))
        (λ e. bytes_eq-same (name_of_node nodes number) (side_name nodes element side)
        (ap (name_of_node nodes) (sym (eqb-true (label side) number e)) ∙ sym (side_is side here)))
        (λ e. eq-eqb (label side) number
        (same_number (label side) number below inside (sym (side_is side here)
        ∙ sym (bytes_eq-true (name_of_node nodes number) (side_name nodes element side) e))))

    flat_lengths : (flat : TermRec) → In flat (map (named_side nodes) joined)
        → flat.length ≡ sum_on (λ part. cond (bytes_eq flat.node (side_name nodes element part)) part.length (pos 0)) terminals
    unfolding label
    flat_lengths flat here =
        let s = In-map_source (named_side nodes) flat joined here in
        let number = s.0.node in
        ap (λ (side : TermRec). side.length) (sym s.1.1) ∙ joins.lengths s.0 s.1.0
        ∙ sum_on-map (side_of list labels element) (length_at number) terminals
        ∙ sum_on-same (λ part. cond (eqb (label part) number) part.length (pos 0))
        (λ part. cond (bytes_eq flat.node (side_name nodes element part)) part.length (pos 0)) terminals
        (λ part h. ap (λ (t : Bool). cond t part.length (pos 0))
        (one_test number (joined_within s.0 s.1.0) part h
        ∙ ap (λ (name : List ℕ). bytes_eq name (side_name nodes element part)) (ap (λ (side : TermRec). side.node) s.1.1)))

    flat_terminals_are : AreFlatTerminals nodes element terminals (map (named_side nodes) joined)
    flat_terminals_are = record {
      in_order = in_order joined joins.ascending joined_within;
      each = λ name. (flat_names name, flat_names_back name);
      lengths = flat_lengths;
    }

-- the name of a node is read as it is
pub name_read : (nodes : List NodeRec) (number : ℕ) → number < length nodes → (d : NodeRec) → (get_or nodes number d).name ≡ name_of_node nodes number
name_read nodes number inside d = sym (name_at_node nodes number (get_or nodes number d) (slice_get-get_or nodes number d inside))

-- terminals with spots have full names
terminals_named : (names : FullNames) → AreNames names → (number : ℕ) → number < length (elements_in names) → (terminals : List TermRec)
    → (spots : List Spot) → AreSpotsOf names (cell_at names number) (map (λ side. side.node) terminals) spots → (list : List (List ℕ))
    → IsFullNameList (elements_in names) list → (side : TermRec) → In side terminals → In (name_in (element_at names number) side.node) list
terminals_named names are number inside terminals spots along list is_list side here =
    let r = place_of side terminals here in
    let spot = get_or spots r.0 (Local 0) in
    let is : side ≡ get_or terminals r.0 side = sym (get_or_from_slice_get terminals r.0 side side r.1.1) in
    spot_named names are number inside side.node spot
    (AreAlong-at (IsSpotOf names (cell_at names number)) (λ (t : TermRec). t.node) terminals spots along r.0 r.1.0 side is (Local 0)) list is_list

-- joined sides of an element's transistor are of nodes, and are its flat terminals
pub terminals_flat : {names : FullNames} → AreNames names → {labels : List ℕ} {nodes : List NodeRec} → AreLabelsOf names labels (length nodes)
    → AreNamedOf names labels (length nodes) nodes → (number : ℕ) → number < length (elements_in names) → (terminals : List TermRec) {spots : List Spot}
    → AreSpotsOf names (cell_at names number) (map (λ side. side.node) terminals) spots → {sides joined : List Side}
    → ((list : List (List ℕ)) → IsFullNameList (elements_in names) list → sides ≡ map (side_of list labels (element_at names number)) terminals)
    → AreJoined sides joined
    → All (λ side. side.node < length nodes) joined × AreFlatTerminals nodes (element_at names number) terminals (map (named_side nodes) joined)
terminals_flat {names} are {labels} {nodes} divided named number inside terminals {spots} has {sides} {joined} sides_are joins =
    let list = are.list in
    let is_list = are.is_list in
    let element = element_at names number in
    let within = terminals_named names are number inside terminals spots has list is_list in
    let all = subst (λ (l : List Side). AreJoined l joined) (sides_are list is_list) joins in (
      All-from_In (λ (side : Side). side.node < length nodes) joined (joined_within (elements_in names) list labels nodes is_list.in_order
          (divided list is_list) (named list is_list) element terminals within joined all),
      flat_terminals_are (elements_in names) list labels nodes is_list.in_order (divided list is_list) (named list is_list) element terminals within joined
          all,
    )
