-- The nodes that the records mean lie where the flat nodes do: at the node of the first cell that has one with the preferred name.
use Rattle.tree_names.proofs.Common.{◌≡◌, ℕ, Bool, List, map, inl, inr, refl, sym, ◌∙◌, ap, subst, Some, In, Chain-one, In-append_cases, In-map}
use Rattle.tree_names.proofs.Common.{In-map_source, In-flat_map, AreOneForOne, Square, RawTech, IsWellFormed, CellExt, NodeRec, full_name, names_of}
use Rattle.tree_names.proofs.Common.{node_names, HasTypesOf, Place, AreTyped, IsTyped, Element, AreOneNode, pairwise_names, IsNoLaterName, name_form}
use Rattle.tree_names.proofs.Common.{later_both_ways, preferred_is_first, recorded, NamedTree, NamedElements, OwnBody, NamedStanding, layouts_below}
use Rattle.tree_names.proofs.Common.{layouts_of, named_standings, named_standings_below, named_above, named_tree, no_more, element_then}
use Rattle.tree_names.proofs.Common.{IsElementFor}
use Rattle.std.proofs.Common.{slice_get}
use Rattle.std.specs.List.{position_or_len}
use Rattle.std.proofs.lemmas.List.Folds.{find_at}
use Rattle.std.proofs.lemmas.List.Sums.{fails_before_first}
use Rattle.std.proofs.lemmas.Option.{get_or_from_slice_get}
use Rattle.std.proofs.lemmas.Slice.Eq.{bytes_eq-Decides}
use Rattle.std.specs.Str.{bytes_eq}
use Rattle.name_classes.proofs.FiniteSets.Searches.{find-In, find-passes, In-from_list_any, absent-from_list_any}
use Rattle.name_classes.proofs.FiniteSets.Places.{In-slice_get}
use Rattle.name_classes.proofs.FiniteSets.OneForOne.{AreOneForOne-there, AreOneForOne-back}
use Rattle.own_record_laws.specs.CellNodes.NodeRecords.{AreNodeRecords, IsNodeRecord}
use Rattle.name_classes.specs.CircuitModel.Elements.{ids_of, placed}
use Rattle.name_classes.specs.CircuitModel.FlatNodes.{IsFlatNode, gives_name, is_among}
use Rattle.name_classes.specs.CircuitModel.FullNames.{full_names, name_in}
use Rattle.own_record_laws.specs.TreeRecords.TreeCircuits.{HasNodeNamed, IsPointOf}
use Rattle.tree_names.proofs.FullOrders.{full_no_later}
use Rattle.tree_names.proofs.RecordedNodes.{record_at}

mutual
  -- each cell as it stands has an own layout of the technology's types
  standing_typed : (raw : RawTech) (tree : NamedTree) → IsTyped raw (layouts_of tree) → (standing : NamedStanding)
      → In standing (named_standings tree) → HasTypesOf raw standing.own.layout
  standing_typed raw (named_tree own elements) typed standing (inl same) =
      let P : NamedStanding → Type 0 = λ o. HasTypesOf raw o.own.layout in subst P same typed.0
  standing_typed raw (named_tree own elements) typed standing (inr below) = below_typed raw elements typed.1 standing below

  below_typed : (raw : RawTech) (elements : NamedElements) → AreTyped raw (layouts_below elements) → (standing : NamedStanding)
      → In standing (named_standings_below elements) → HasTypesOf raw standing.own.layout
  below_typed raw no_more typed standing none = absurd none
  below_typed raw (element_then id transform tree rest) typed standing here =
      elim (In-append_cases standing (map (named_above id transform) (named_standings tree)) (named_standings_below rest) here) [
        | inl first ↦
            (let source = In-map_source (named_above id transform) standing (named_standings tree) first in
            let P : NamedStanding → Type 0 = λ o. HasTypesOf raw o.own.layout in
            subst P source.1.1 (standing_typed raw tree typed.0 source.0 source.1.0))
        | inr later ↦ below_typed raw rest typed.1 standing later
      ]

-- the records of the nodes of the cell that an element stands for
nodes_of : (raw : RawTech) (exts : List CellExt) (standing : NamedStanding) (element : Element) → IsElementFor raw exts standing element
    → AreNodeRecords raw standing.own.layout standing.own.labels element.ext.nodes
nodes_of raw exts standing element is =
    let P : OwnBody → Type 0 = λ own. AreNodeRecords raw own.layout own.labels element.ext.nodes in subst P is.own is.is.nodes

module _ (raw : RawTech) (formed : IsWellFormed raw) (exts : List CellExt) (tree : NamedTree) (typed : IsTyped raw (layouts_of tree))
    (elements : List Element) (are : AreOneForOne (IsElementFor raw exts) (named_standings tree) elements) where
  -- where a name of a part of a flat node has the flat node's preferred name as its full name, so has the part's preferred name
  preferred_part : (classes : ℕ) (node : NodeRec) → IsFlatNode elements classes node → (standing : NamedStanding) (element : Element)
      → In standing (named_standings tree) → In element elements → IsElementFor raw exts standing element → (part : NodeRec) (least : Place)
      → In part element.ext.nodes → IsNodeRecord raw standing.own.layout standing.own.labels least part → (name : List ℕ)
      → In name (names_of part) → name_in element name ≡ node.name → node.name ≡ name_in element part.name
  preferred_part classes node flat standing element stands listed of part least within is name named same =
      let own = standing.own in
      let type = (standing_typed raw tree typed standing stands least is.material).0 in
      let form = λ (n : List ℕ) (here : In n (names_of part)).
      name_form raw formed own.layout own.labels least n type (is.names.2 n here) in
      let preferred : In part.name (names_of part) = inl refl in
      let order = (preferred_is_first raw own.layout own.labels least part is).1 name (is.names.2 name named) in
      let later : IsNoLaterName (name_in element part.name) node.name = subst (IsNoLaterName (name_in element part.name)) same
      (full_no_later (ids_of element) part.name name (form part.name preferred) (form name named) order) in
      let full : In (name_in element part.name) (full_names element) = In-map (name_in element) part.name (node_names element.ext)
      (In-flat_map names_of part part.name element.ext.nodes within preferred) in
      let second : In node.name (map (name_in element) (names_of part)) =
      subst (λ (n : List ℕ). In n (map (name_in element) (names_of part))) same (In-map (name_in element) name (names_of part) named) in
      let joined : AreOneNode elements node.name (name_in element part.name) =
      Chain-one (inr (element, (listed, inl (record { node = part; within = within; preferred = refl; named = second })))) in
      let first : IsNoLaterName node.name (name_in element part.name) =
      elim ((flat.names (name_in element part.name)).1 ((element, (listed, full)), joined)) [
        | inl is_first ↦ inl is_first
        | inr alias ↦ inr ((pairwise_names (names_of node) flat.in_order).0 (name_in element part.name) alias)
      ] in
      later_both_ways node.name (name_in element part.name) first later

  -- where a cell as it stands has a node with the preferred name, its element has the name
  has_full_name : (standing : NamedStanding) (element : Element) → IsElementFor raw exts standing element → (name : List ℕ) (least : Place)
      → HasNodeNamed raw standing name least → In name (full_names element)
  has_full_name standing element of name least has =
      let nodes = nodes_of raw exts standing element of in
      let at = record_at raw standing.own element.ext.nodes nodes least has.material in
      let named = at.names has.own_name (record { material = has.material; least = least; is_least = has.is_least; named = has.first.0 }) in
      let listed = In-flat_map names_of at.node has.own_name element.ext.nodes at.listed named in
      let full : name_in element has.own_name ≡ name = ap (λ (ids : List (List ℕ)). full_name ids has.own_name) of.ids ∙ sym has.full in
      subst (λ (n : List ℕ). In n (full_names element)) full (In-map (name_in element) has.own_name (node_names element.ext) listed)

  -- a node that the records mean lies where its flat node does
  pub point_of : (classes : ℕ) (node : NodeRec) → IsFlatNode elements classes node → IsPointOf raw tree node
  point_of classes node flat =
      let place = flat.place in
      let element = place.element in
      let test : Element → Bool = λ e. is_among (full_names e) node.name in
      let position = position_or_len test elements in
      let at : slice_get elements position ≡ Some element = sym (find_at test elements) ∙ place.first in
      let from = AreOneForOne-back (IsElementFor raw exts) (named_standings tree) elements are position element at in
      let standing = from.0 in
      let within = find-In (gives_name element node.name) element.ext.nodes place.part place.carrier in
      let gives = find-passes (gives_name element node.name) element.ext.nodes place.part place.carrier in
      let source = In-map_source (name_in element) node.name (names_of place.part)
      (In-from_list_any bytes_eq bytes_eq-Decides node.name (map (name_in element) (names_of place.part)) gives) in
      let own = standing.own in
      let recorded_at = recorded raw own.layout own.labels element.ext.nodes (nodes_of raw exts standing element from.2) place.part within in
      let is = recorded_at.is in
      let least = recorded_at.least in
      let full = preferred_part classes node flat standing element (In-slice_get (named_standings tree) position standing from.1)
      (In-slice_get elements position element at) from.2 place.part least within is source.0 source.1.0 source.1.1 in
      let corner : Path Square (record { x = place.part.x; y = place.part.y }) least.square = λ i. record { x = is.x i; y = is.y i } in
      record {
        position = position;
        standing = standing;
        there = from.1;
        least = least;
        has = record {
          material = is.material;
          is_least = is.is_least;
          own_name = place.part.name;
          first = preferred_is_first raw own.layout own.labels least place.part is;
          full = full ∙ ap (λ (ids : List (List ℕ)). full_name ids place.part.name) from.2.ids;
        };
        none_before = λ earlier other least' before there has.
            let to = AreOneForOne-there (IsElementFor raw exts) (named_standings tree) elements are earlier other there in
            let fails = fails_before_first test elements earlier to.0 before in
            let here = get_or_from_slice_get elements earlier to.0 to.0 to.1 in
            absent-from_list_any bytes_eq bytes_eq-Decides node.name (full_names to.0) (ap test (sym here) ∙ fails)
            (has_full_name other to.0 to.2 node.name least' has);
        point = place.point ∙ ap (placed element.uses) corner ∙ from.2.moves least.square;
        kind = place.kind ∙ is.kind;
      }
