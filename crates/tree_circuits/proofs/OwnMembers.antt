-- The nodes of a cell's own layout as members of its groups.
use Rattle.tree_circuits.proofs.Common.{◌≡◌, ℕ, ℤ, List, [], ◌∷◌, map, inl, refl, ◌∙◌, ap, subst, flat_map, In, Distinct, Total, Chain-append}
use Rattle.tree_circuits.proofs.Common.{IsLeast-iff, In-map, In-map_source, Total-iff, In-flat_map, RawTech, IsWellFormed, names_of, NodeRec, Place}
use Rattle.tree_circuits.proofs.Common.{IsNoLater, AreOneNamedNode, IsOfNode, OwnBody, RecordedQuantity}
use Rattle.finite_sets.proofs.Distincts.{Distinct-append_apart, Distinct-append_right}
use Rattle.tree_names.specs.LayoutModel.LayerTypes.{HasTypesOf}
use Rattle.tree_names.specs.CellNodes.NodeRecords.{IsNodeRecord, AreNodeRecords}
use Rattle.tree_names.proofs.CellNodes.NodePlaces.{AreOneNamedNode-sym, material_along}
use Rattle.tree_names.proofs.OwnRecordLaws.NamesDiffer.{names_differ}
use Rattle.tree_names.proofs.OwnRecordLaws.PreferredNames.{goes_by, in_some, preferred_is_first, recorded}
use Rattle.tree_names.proofs.OwnNames.{goes_by_own, one_own_node}
use Rattle.tree_circuits.proofs.RecordedQuantities.{IsRecordedQuantity}
use Rattle.tree_circuits.proofs.NamedSums.{names_in}

-- nodes by their preferred names, with what the records have of a weight
abbrev pub own_members : RecordedQuantity → List NodeRec → List (List ℕ × ℤ)
own_members quantity nodes = map (λ node. (node.name, quantity.of_node node)) nodes

-- a member with its record
pub record IsRecorded (quantity : RecordedQuantity) (nodes : List NodeRec) (one : List ℕ × ℤ) : Type 0 where
  pub node : NodeRec
  pub listed : In node nodes
  pub name : node.name ≡ one.0
  pub has : quantity.of_node node ≡ one.1

-- each member is a node
member_record : (quantity : RecordedQuantity) (nodes : List NodeRec) (one : List ℕ × ℤ) → In one (own_members quantity nodes) → IsRecorded quantity nodes one
member_record quantity nodes one here =
    let found = In-map_source (λ (node : NodeRec). (node.name, quantity.of_node node)) one nodes here in
    record {
      node = found.0;
      listed = found.1.0;
      name = ap (λ (pair : List ℕ × ℤ). pair.0) found.1.1;
      has = ap (λ (pair : List ℕ × ℤ). pair.1) found.1.1;
    }

-- nodes whose names all differ have different preferred names
preferred_differ : (quantity : RecordedQuantity) (nodes : List NodeRec) → Distinct (flat_map names_of nodes) → Distinct (names_in (own_members quantity nodes))
preferred_differ quantity [] differ = tt
preferred_differ quantity (node ∷ nodes) differ = (
  (λ here.
      let pair = In-map_source (λ (one : List ℕ × ℤ). one.0) node.name (own_members quantity nodes) here in
      let found = member_record quantity nodes pair.0 pair.1.0 in
      Distinct-append_apart (names_of node) (flat_map names_of nodes) differ node.name (inl refl)
      (In-flat_map names_of found.node node.name nodes found.listed (inl (found.name ∙ pair.1.1)))),
  preferred_differ quantity nodes (Distinct-append_right (names_of node) (flat_map names_of nodes) differ),
)

-- a place of a node goes by its name
goes_along : (raw : RawTech) (own : OwnBody) → IsWellFormed raw → (a b : Place) (name : List ℕ) → AreOneNamedNode raw own.layout own.labels a b
    → IsOfNode raw own.layout own.labels name a → IsOfNode raw own.layout own.labels name b
goes_along raw own well a b name joined is =
    let N : Place → Place → Type 0 = AreOneNamedNode raw own.layout own.labels in
    record {
      material = material_along raw own.layout own.labels well joined is.material;
      least = is.least;
      is_least = IsLeast-iff IsNoLater (N a) (N b) (λ x there. Chain-append (AreOneNamedNode-sym raw own.layout own.labels joined) there)
          (λ x there. Chain-append joined there) is.least is.is_least;
      first = is.first;
    }

module _ (raw : RawTech) (own : OwnBody) (quantity : RecordedQuantity) (nodes : List NodeRec) (well : IsWellFormed raw)
    (typed : HasTypesOf raw own.layout) (are : AreNodeRecords raw own.layout own.labels nodes) where
  -- no two nodes have one preferred name
  pub own_differ : Distinct (names_in (own_members quantity nodes))
  own_differ = preferred_differ quantity nodes (names_differ raw own.layout own.labels well typed nodes are)

  -- the least place of a node goes by its preferred name
  least_goes_by : (least : Place) (node : NodeRec) → IsNodeRecord raw own.layout own.labels least node → IsOfNode raw own.layout own.labels node.name least
  least_goes_by least node is =
      record { material = is.material; least = least; is_least = is.is_least; first = preferred_is_first raw own.layout own.labels least node is }

  -- each has a place
  pub own_placed : (member : List ℕ) → In member (names_in (own_members quantity nodes)) → (place : Place) × IsOfNode raw own.layout own.labels member place
  own_placed member here =
      let pair = In-map_source (λ (one : List ℕ × ℤ). one.0) member (own_members quantity nodes) here in
      let found = member_record quantity nodes pair.0 pair.1.0 in
      let at = recorded raw own.layout own.labels nodes are found.node found.listed in
      (at.least, subst (λ (name : List ℕ). IsOfNode raw own.layout own.labels name at.least) (found.name ∙ pair.1.1) (least_goes_by at.least found.node at.is))

  -- and each node is listed
  pub own_known : (place : Place) (member : List ℕ) → IsOfNode raw own.layout own.labels member place → In member (names_in (own_members quantity nodes))
  own_known place member is =
      let some = in_some raw own.layout own.labels nodes are place is.material in
      let member_of : NodeRec → List ℕ × ℤ = λ node. (node.name, quantity.of_node node) in
      let P : List ℕ → Type 0 = λ name. In name (names_in (own_members quantity nodes)) in
      subst P (goes_by raw own.layout own.labels nodes are member place is some)
      (In-map (λ (one : List ℕ × ℤ). one.0) (member_of some.node) (own_members quantity nodes) (In-map member_of some.node nodes some.listed))

  -- what is counted of one is what its record has
  pub own_total : IsRecordedQuantity raw quantity → (one : List ℕ × ℤ) → In one (own_members quantity nodes) → (total : ℤ)
      → Total (IsOfNode raw own.layout own.labels one.0) (quantity.weight own.layout) total → total ≡ one.1
  own_total quantities one here total sum =
      let found = member_record quantity nodes one here in
      let at = recorded raw own.layout own.labels nodes are found.node found.listed in
      let first = subst (λ (name : List ℕ). IsOfNode raw own.layout own.labels name at.least) found.name (least_goes_by at.least found.node at.is) in
      quantities.nodes own.layout own.labels at.least found.node total at.is
      (Total-iff (IsOfNode raw own.layout own.labels one.0) (AreOneNamedNode raw own.layout own.labels at.least) (quantity.weight own.layout) total
      (λ place is. one_own_node raw well own typed at.least place one.0
      (goes_by_own raw own at.least one.0 first) (goes_by_own raw own place one.0 is))
      (λ place joined. goes_along raw own well at.least place one.0 joined first) sum)
      ∙ found.has
