-- Inputs of a network, and the network as a whole.
use Rattle.sim_networks.proofs.Common.{◌≡◌, ℕ, ◌<◌, Bool, true, false, List, [], length, get_or, inl, inr, refl, sym, ap, ◌∙◌, subst, arith, All}
use Rattle.sim_networks.proofs.Common.{cases_eq, cases_lt, In, In-get_or, Switch, HasName, NameNodesBelow, NameOneNodeEach, Network, AreTransistors}
use Rattle.sim_networks.proofs.Common.{IsNetworkOf, SimRecords, NodeTable, IsTableOf, names_with_nodes}
use Rattle.std.specs.Prelude.{codes, slice_set}
use Rattle.std.proofs.Math.ListN.{get_or-eq_default}
use Rattle.std.proofs.Common.{get_or-set_other, get_or-set_same}
use Rattle.switch_net.specs.Network.{IsSound}
use Rattle.sim_networks.specs.steps.Numbering.{IsTable, MarksInput}
use Rattle.sim_networks.proofs.NumberLaws.{has_labelled, one_number}

-- a name of the table has one node
pub one_node : (table : NodeTable) → IsTable table → NameOneNodeEach (names_with_nodes table)
one_node table is name v w has_v has_w =
    let names = table.names.index in
    let labels = table.labels.items in
    let p = has_labelled names labels v name has_v in
    let q = has_labelled names labels w name has_w in
    let same = one_number names name p.number q.number is.distinct p.is_number q.is_number in
    sym p.label_is ∙ ap (λ (k : ℕ). get_or labels k 0) same ∙ q.label_is

-- which is one of its nodes
pub node_below : (table : NodeTable) → IsTable table → NameNodesBelow table.count (names_with_nodes table)
node_below table is name v has =
    let at = has_labelled table.names.index table.labels.items v name has in
    let inside : at.number < length table.labels.items = omega (arith, at.is_number.within, is.one_label) in
    subst (λ (label : ℕ). label < table.count) at.label_is (is.below at.number 0 inside)

-- a name that is not in the table has no node
pub no_node : (table : NodeTable) (name : List ℕ) → (In name table.names.index → ⊥) → (v : ℕ) → HasName (names_with_nodes table) v name → ⊥
no_node table name nowhere v has =
    let at = has_labelled table.names.index table.labels.items v name has in
    nowhere (subst (λ (one : List ℕ). In one table.names.index) at.is_number.is
    (In-get_or table.names.index at.number [] at.is_number.within))

-- where no node has the name, nothing is marked
pub marks_none : (names : List (List ℕ × ℕ)) (name : List ℕ) (net : Network) → ((v : ℕ) → HasName names v name → ⊥)
    → MarksInput names name net net
marks_none names name net none = record {
  nodes = refl;
  switches = refl;
  sizes = refl;
  inputs = λ v below. ((λ is. inl is), (λ either. elim either [ inl is ↦ is | inr has ↦ absurd (none v has) ]));
}

-- and else its node
pub marks_one : (names : List (List ℕ × ℕ)) (name : List ℕ) (node : ℕ) (old new : Network) → NameOneNodeEach names
    → length old.inputs ≡ old.nodes
    → node < old.nodes → HasName names node name → new ≡ record old { inputs = slice_set old.inputs node true }
    → MarksInput names name old new
marks_one names name node old new one long below has is =
    subst (λ (net : Network). MarksInput names name old net) (sym is) (record {
      nodes = refl;
      switches = refl;
      sizes = refl;
      inputs = λ v v_below. elim (cases_eq v node) [
        | inl same ↦ (
          (λ marked. inr (subst (λ (w : ℕ). HasName names w name) (sym same) has)),
          (λ either. (let inside : node < length old.inputs = omega arith in
              ap (λ (w : ℕ). get_or (slice_set old.inputs node true) w false) same ∙ get_or-set_same old.inputs node true false inside)),
        )
        | inr other ↦ (let stays : get_or (slice_set old.inputs node true) v false ≡ get_or old.inputs v false =
            get_or-set_other old.inputs node v true false other in (
              (λ marked. inl (sym stays ∙ marked)),
              (λ either. elim either [ inl before ↦ stays ∙ before | inr named ↦ absurd (other (one name v node named has)) ]),
            ))
      ];
    })

not_marked : (inputs : List Bool) → All (λ input. input ≡ false) inputs → (v : ℕ) → get_or inputs v false ≡ false
not_marked inputs none v = elim (cases_lt v (length inputs)) [
  | inl inside ↦ none v false inside
  | inr past ↦ get_or-eq_default inputs false past
]

-- the network of the records, whose inputs are power and ground
pub network_made : (records : SimRecords) (table : NodeTable) (start powered net : Network) → IsTableOf records table
    → start.nodes ≡ table.count
    → AreTransistors (names_with_nodes table) records.transistors start.switches → All (λ size. size ≡ 1) start.sizes
    → All (λ input. input ≡ false) start.inputs → MarksInput (names_with_nodes table) (codes "Vdd!") start powered
    → MarksInput (names_with_nodes table) (codes "GND!") powered net → IsSound net → IsNetworkOf records net (names_with_nodes table)
network_made records table start powered net is count switches sizes inputs power ground sound =
    let names = names_with_nodes table in
    let nodes : net.nodes ≡ start.nodes = ground.nodes ∙ power.nodes in
    let same_nodes : net.nodes ≡ table.count = nodes ∙ count in
    record {
      named = is.nodes.named;
      stands = λ name v has. let at = is.nodes.stands name v has in (at.0, omega (arith, at.1));
      each_node = λ v below. is.nodes.each_node v (omega arith);
      classes = is.nodes.classes;
      switches = subst (λ (list : List Switch). AreTransistors names records.transistors list) (sym (ground.switches ∙ power.switches))
          switches;
      sizes = subst (λ (list : List ℕ). All (λ size. size ≡ 1) list) (sym (ground.sizes ∙ power.sizes)) sizes;
      inputs = λ v below.
          let first = power.inputs v (omega arith) in
          let second = ground.inputs v (omega (arith, power.nodes)) in (
            (λ marked. elim (second.0 marked) [
              | inl before ↦ (elim (first.0 before) [
                | inl start_marked ↦ (let none = not_marked start.inputs inputs v in cc)
                | inr has ↦ inl has
              ])
              | inr has ↦ inr has
            ]),
            (λ either. elim either [ inl has ↦ second.1 (inl (first.1 (inr has))) | inr has ↦ second.1 (inr has) ]),
          );
      sound = sound;
    }
