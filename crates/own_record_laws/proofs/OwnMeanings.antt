-- What the record of a cell without uses means is the circuit that the layout is.
use Rattle.own_record_laws.proofs.Common.{◌≡◌, ◌<◌, ℕ, suc, ℤ, List, [], ◌∷◌, map, length, get_or, inl, inr, refl, sym, ◌∙◌, ap, subst, arith}
use Rattle.own_record_laws.proofs.Common.{map-map, In, Distinct, In-map_source, Square, Label, RawTech, NodeRec, TermRec, FetRec, CellExt, IsLawful}
use Rattle.own_record_laws.proofs.Common.{names_of, Place, Layout, IsTransistor, IsTerminalOf, AreOneChannel, Element, AreInNameOrder, AreFlatNodes}
use Rattle.own_record_laws.proofs.Common.{IsOfNode, IsFetRecord, IsOwnRecord}
use Rattle.std.proofs.lemmas.List.{append-nil}
use Rattle.full_names.proofs.FiniteSets.Pairs.{AllPairs-from_Pairwise, Pairwise-from_AllPairs, Pairwise-unmap}
use Rattle.full_names.specs.ExtModel.declared.circuits.Circuit.{Circuit}
use Rattle.full_names.specs.CircuitModel.Elements.{elements_of}
use Rattle.full_names.specs.CircuitModel.FlatFets.{fets_in, IsFlatFet, AreFlatFets}
use Rattle.full_names.specs.CircuitModel.Circuits.{IsCircuitOf}
use Rattle.full_names.proofs.ListOrders.{pairwise_names, names_in_order}
use Rattle.tree_records.specs.FetRecords.{IsNameBefore}
use Rattle.tree_records.specs.OwnCircuits.{IsOwnCircuit}
use Rattle.own_record_laws.specs.Laws.{OwnRecordsMeanTheLayout}
use Rattle.own_record_laws.proofs.OneElement.{root_of, only_record, only_element}
use Rattle.own_record_laws.proofs.PreferredNames.{recorded, in_some, goes_by}
use Rattle.own_record_laws.proofs.SameFets.{Found, IsKept, AreKept, kept_records, side_of}
use Rattle.own_record_laws.proofs.SameNodes.{flat_is_own, own_is_flat}
use Rattle.own_record_laws.proofs.SomeEdges.{some_edge}
use Rattle.own_record_laws.proofs.SameTerminals.{IsPreferred, sides_of, same_gate, terminals_over, terminals_back}

module _ (raw : RawTech) (layout : Layout) (labels : List Label) (name : List ℕ) (ext : CellExt) (lawful : IsLawful ext)
    (own : IsOwnRecord raw layout labels name ext) where
  -- names of nodes stand in order
  ordered : (node : NodeRec) → In node ext.nodes → AreInNameOrder (names_of node)
  ordered node listed =
      let at = recorded raw layout labels ext.nodes own.nodes node listed in
      names_in_order (names_of node) (Pairwise-from_AllPairs IsNameBefore (names_of node) at.is.names_in_order)

  -- what the node of a place goes by is a preferred name
  preferred_at : (by : List ℕ) (place : Place) → IsOfNode raw layout labels by place → IsPreferred ext.nodes by
  preferred_at by place is =
      let some = in_some raw layout labels ext.nodes own.nodes place is.material in
      record { node = some.node; listed = some.listed; is = goes_by raw layout labels ext.nodes own.nodes by place is some }

  module _ (nodes : List NodeRec) (are : AreFlatNodes (root_of ext ∷ []) (length ext.classes) nodes) where
    -- a transistor whose record has become a flat transistor is kept
    kept_one : (fet : Found) (made flat : FetRec) → IsTransistor raw layout (IsOfNode raw layout labels) fet → IsFetRecord raw fet made
        → IsFlatFet nodes (root_of ext) made flat → IsKept raw layout labels fet made flat
    kept_one fet made flat is of is_flat =
        let gate : IsPreferred ext.nodes made.gate.node =
        subst (λ (side : TermRec). IsPreferred ext.nodes side.node) (sym of.gate) (preferred_at fet.gate fet.least is.gate) in
        let preferred : (side : TermRec) → In side made.terminals → IsPreferred ext.nodes side.node = λ side here.
        let source = In-map_source side_of side fet.terminals (subst (In side) of.terminals here) in
        let counted = is.terminals source.0.0 source.0.1 source.1.0 in
        let edge = some_edge (AreOneChannel layout fet.least) (IsTerminalOf raw layout (IsOfNode raw layout labels) fet.kind source.0.0) source.0.1
        counted.0 counted.1 in
        subst (λ (s : TermRec). IsPreferred ext.nodes s.node) source.1.1 (preferred_at source.0.0 edge.edge.1 edge.leads.to.owned) in
        let sides : sides_of made ≡ map (λ (t : List ℕ × ℤ). t.0) fet.terminals =
        ap (map (λ (side : TermRec). side.node)) of.terminals ∙ map-map (λ (side : TermRec). side.node) side_of fet.terminals in
        let distinct : Distinct (sides_of made) = subst (λ (names : List (List ℕ)). Distinct names) (sym sides) is.once in
        record {
          is = is;
          of = of;
          sorted = record {
            kind = is_flat.kind;
            x = ap (λ (square : Square). square.x) is_flat.point;
            y = ap (λ (square : Square). square.y) is_flat.point;
            area = is_flat.area;
            perimeter = is_flat.perimeter;
            substrate = is_flat.substrate;
            gate = same_gate ext lawful own.merges ordered nodes are made flat is_flat gate preferred distinct;
            in_order = is_flat.in_order;
            over = terminals_over ext lawful own.merges ordered nodes are made flat is_flat gate preferred distinct;
            back = terminals_back ext lawful own.merges ordered nodes are made flat is_flat gate preferred distinct;
          };
        }

    -- all transistors are kept
    all_kept : (fets : List Found) (mades flats : List FetRec) → ((fet : Found) → In fet fets → IsTransistor raw layout (IsOfNode raw layout labels) fet)
        → length mades ≡ length fets
        → ((k : ℕ) (fet : Found) (made : FetRec) → k < length fets → IsFetRecord raw (get_or fets k fet) (get_or mades k made))
        → AreFlatFets nodes (map (λ (fet : FetRec). (root_of ext, fet)) mades) flats → AreKept raw layout labels fets mades flats
    all_kept [] [] [] sound long each flat = tt
    all_kept [] [] (one ∷ flats) sound long each flat = absurd flat
    all_kept [] (made ∷ mades) flats sound long each flat = absurd (omega (arith, long))
    all_kept (fet ∷ fets) [] flats sound long each flat = absurd (omega (arith, long))
    all_kept (fet ∷ fets) (made ∷ mades) [] sound long each flat = absurd flat
    all_kept (fet ∷ fets) (made ∷ mades) (one ∷ flats) sound long each flat = (
      kept_one fet made one (sound fet (inl refl)) (each 0 fet made (omega arith)) flat.0,
      all_kept fets mades flats (λ f here. sound f (inr here)) (omega (arith, long)) (λ k f m below. each (suc k) f m (omega (arith, below))) flat.1,
    )

  -- the circuit of the only element is that of the layout
  circuit_is : (circuit : Circuit) → IsCircuitOf (root_of ext ∷ []) ext circuit → IsOwnCircuit raw layout labels circuit
  circuit_is circuit is =
      let flats : AreFlatFets circuit.nodes (map (λ (fet : FetRec). (root_of ext, fet)) ext.fets) circuit.fets =
      subst (λ (fets : List (Element × FetRec)). AreFlatFets circuit.nodes fets circuit.fets) (append-nil (fets_in (root_of ext))) is.fets in
      let kept = all_kept circuit.nodes is.nodes own.fets.found ext.fets circuit.fets own.fets.transistors.sound own.fets.one_each own.fets.each flats in
      record {
        tech = is.tech ∙ own.tech;
        classes = is.classes ∙ own.classes;
        sound = λ node here.
            let at = recorded raw layout labels ext.nodes own.nodes node (flat_is_own ext lawful own.merges ordered circuit.nodes is.nodes node here) in
            record { least = at.least; is = at.is };
        whole = λ place material.
            let some = in_some raw layout labels ext.nodes own.nodes place material in
            record {
              node = some.node;
              listed = own_is_flat ext lawful own.merges ordered circuit.nodes is.nodes some.node some.listed;
              least = some.least;
              is = some.is;
              within = some.within;
            };
        in_order = AllPairs-from_Pairwise (λ (a b : NodeRec). IsNameBefore a.name b.name) circuit.nodes
            (Pairwise-unmap (λ (node : NodeRec). node.name) IsNameBefore circuit.nodes
            (pairwise_names (map (λ (node : NodeRec). node.name) circuit.nodes) is.nodes.in_order));
        fets = kept_records raw layout labels own.fets.found ext.fets circuit.fets kept own.fets.transistors;
      }

-- and so is what the record alone means
pub own_meaning : OwnRecordsMeanTheLayout
own_meaning raw layout labels name ext circuit lawful own flat =
    let same = only_record ext flat.top name flat.found in
    let P : CellExt → Type 0 = λ top. IsCircuitOf (elements_of (ext ∷ []) top) top circuit in
    let Q : List Element → Type 0 = λ elements. IsCircuitOf elements ext circuit in
    circuit_is raw layout labels name ext lawful own circuit (subst Q (only_element (ext ∷ []) ext own.uses) (subst P (sym same) flat.meaning))
