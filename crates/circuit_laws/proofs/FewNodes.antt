-- A flat circuit has no more nodes than its elements have node records, and its sim records no more than it.
use Rattle.circuit_laws.proofs.Common.{◌≡◌, ◌≤◌, ℕ, suc, List, [], ◌∷◌, length, map, inl, inr, refl, ◌∙◌, ap, subst, arith, sum_by, flat_map}
use Rattle.circuit_laws.proofs.Common.{bytes_eq-Decides, bytes_eq, In, Chain-append, Chain-either_back, In-index, In-map, find-In, Circuit, NodeRec}
use Rattle.circuit_laws.proofs.Common.{names_of, Element, full_names, name_in, AreLinked, AreOneNode, AreFlatNodes, IsPlaced, gives_name, is_among}
use Rattle.circuit_laws.proofs.Common.{aliases_of, sim_of, AreOfOneNode, IsAlias, SimRecords}
use Rattle.std.proofs.lemmas.List.{length-map}
use Rattle.std.proofs.lemmas.List.Concat.{length-flat_map}
use Rattle.finite_sets.specs.Chain.Chain.{stay, go}
use Rattle.finite_sets.specs.Lists.{Distinct}
use Rattle.finite_sets.proofs.Chains.{Chain-one, Chain-same}
use Rattle.finite_sets.proofs.Distincts.{length-distinct}
use Rattle.finite_sets.proofs.Pairs.{Pairwise, Pairwise-from_AllPairs}
use Rattle.finite_sets.proofs.Searches.{find-passes, In-from_list_any}
use Rattle.finite_sets.proofs.Images.{In-flat_map}
use Rattle.full_names.specs.CircuitModel.Refusals.{node_count}
use Rattle.sim_networks.specs.SwitchNet.SimRecords as Records
use Rattle.sim_networks.specs.SimNetworks.{HasMoreNodesThan, records_of}
use Rattle.circuit_laws.proofs.FlatNames.{IsOfNode}

-- the node records of an element, each with the element
abbrev parts_in : Element → List (Element × NodeRec)
parts_in element = map (λ part. (element, part)) element.ext.nodes

-- those of all elements
abbrev parts_of : List Element → List (Element × NodeRec)
parts_of elements = flat_map parts_in elements

length-parts_in : (element : Element) → length (parts_in element) ≡ length element.ext.nodes
length-parts_in element = length-map element.ext.nodes (λ (part : NodeRec). (element, part))

length-parts_of : (elements : List Element) → length (parts_of elements) ≡ node_count elements
length-parts_of elements =
    length-flat_map parts_in elements
    ∙ (λ i. sum_by (λ (element : Element). length-parts_in element i) elements)

module _ (elements : List Element) (classes : ℕ) (circuit : Circuit) (are : AreFlatNodes elements classes circuit.nodes) where
  -- the sim records of the circuit
  abbrev records : SimRecords
  records = records_of (sim_of circuit)

  -- the alias lines join the preferred name of a node with each of its names
  pub joined : (node : NodeRec) → In node circuit.nodes → (name : List ℕ) → In name (names_of node) → AreOfOneNode records node.name name
  joined node within name (inl same) = Chain-same _ node.name name same
  joined node within name (inr here) =
      Chain-one (inl (In-flat_map aliases_of node (node.name, name) circuit.nodes within
      (In-map (λ (alias : List ℕ). (node.name, alias)) name node.aliases here)))

  -- The name is of a flat node whose preferred name a node record of an element gives.
  record ComesFrom (part : Element × NodeRec) (name : List ℕ) : Type 0 where
    node : NodeRec
    within : In node circuit.nodes
    named : In name (names_of node)
    element : In part.0 elements
    carrier : In part.1 part.0.ext.nodes
    gives : In node.name (map (name_in part.0) (names_of part.1))

  -- each name of a flat node comes from a node record
  origin : (name : List ℕ) → IsOfNode circuit.nodes name → (part : Element × NodeRec) × ComesFrom part name
  origin name of =
      let placed : IsPlaced elements of.node = (are.sound of.node of.within).place in (
        (placed.element, placed.part),
        record {
          node = of.node;
          within = of.within;
          named = of.named;
          element = find-In (λ (element : Element). is_among (full_names element) of.node.name) elements placed.element placed.first;
          carrier = find-In (gives_name placed.element of.node.name) placed.element.ext.nodes placed.part placed.carrier;
          gives = In-from_list_any bytes_eq bytes_eq-Decides of.node.name (map (name_in placed.element) (names_of placed.part))
              (find-passes (gives_name placed.element of.node.name) placed.element.ext.nodes placed.part placed.carrier);
        },
      )

  -- names that come from one node record are of one node
  of_one_node : (part : Element × NodeRec) (a b : List ℕ) → ComesFrom part a → ComesFrom part b → AreOfOneNode records a b
  of_one_node part a b p q =
      let own = name_in part.0 part.1.name in
      let link : (name : List ℕ) → In name (map (name_in part.0) (names_of part.1)) → AreLinked elements own name = λ name here.
      (part.0, (p.element, inl (record { node = part.1; within = p.carrier; preferred = refl; named = here }))) in
      let chain : AreOneNode elements p.node.name q.node.name =
      go (inr (link p.node.name p.gives)) (go (inl (link q.node.name q.gives)) stay) in
      let full = (((are.sound q.node q.within).names q.node.name).0 (inl refl)).0 in
      let shared = ((are.sound p.node p.within).names q.node.name).1 (full, chain) in
      Chain-append (Chain-either_back (IsAlias records) (joined p.node p.within a p.named))
      (Chain-append (joined p.node p.within q.node.name shared) (joined q.node q.within b q.named))

  -- Node records that some names come from, each once.
  record HasPartsOf (names : List (List ℕ)) : Type 0 where
    parts : List (Element × NodeRec)
    once : Distinct parts
    each : (part : Element × NodeRec) → In part parts → (name : List ℕ) × (In name names × ComesFrom part name)
    long : length parts ≡ length names

  -- names of different nodes come from different node records
  parts_from : (names : List (List ℕ)) → ((name : List ℕ) → In name names → IsOfNode circuit.nodes name)
      → Pairwise (λ a b. ¬ (AreOfOneNode records a b)) names → HasPartsOf names
  parts_from [] of apart = record { parts = []; once = tt; each = λ part none. absurd none; long = refl }
  parts_from (name ∷ names) of apart =
      let rest = parts_from names (λ other here. of other (inr here)) apart.1 in
      let this = origin name (of name (inl refl)) in record {
        parts = this.0 ∷ rest.parts;
        once = (
          (λ here. let other = rest.each this.0 here in apart.0 other.0 other.1.0 (of_one_node this.0 name other.0 this.1 other.1.1)),
          rest.once,
        );
        each = λ part here. elim here [
          | inl same ↦ (name, (inl refl, subst (λ (one : Element × NodeRec). ComesFrom one name) same this.1))
          | inr later ↦ (let other = rest.each part later in (other.0, (inr other.1.0, other.1.1)))
        ];
        long = ap suc rest.long;
      }

  -- where each name in the sim records is of a node, they have no more nodes than the elements have node records
  pub few_nodes : ((name : List ℕ) → In name (Records.names_of records) → IsOfNode circuit.nodes name) → (most : ℕ)
      → node_count elements ≤ most → ¬ (HasMoreNodesThan most records)
  few_nodes of most few more =
      let stand : (name : List ℕ) → In name more.names → IsOfNode circuit.nodes name = λ name here.
      (let at = In-index name more.names here in
      of name (subst (λ (one : List ℕ). In one (Records.names_of records)) (at.1.1 name) (more.stand at.0 name at.1.0))) in
      let all = parts_from more.names stand (Pairwise-from_AllPairs (λ a b. ¬ (AreOfOneNode records a b)) more.names more.apart) in
      let inside : (part : Element × NodeRec) → In part all.parts → In part (parts_of elements) = λ part here.
      (let from = (all.each part here).1.1 in
      In-flat_map parts_in part.0 part elements from.element
      (In-map (λ (one : NodeRec). (part.0, one)) part.1 part.0.ext.nodes from.carrier)) in
      let bound = length-distinct all.parts (parts_of elements) all.once inside in
      omega (arith, bound, length-parts_of elements, all.long, few, more.more)
