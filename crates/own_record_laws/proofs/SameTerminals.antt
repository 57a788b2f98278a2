-- A flat transistor has the gate and the terminals of the record's transistor.
use Rattle.own_record_laws.proofs.Common.{◌≡◌, ℕ, Bool, true, List, [], ◌∷◌, map, length, inl, refl, sym, ◌∙◌, ap, subst, Option, Some, None, find}
use Rattle.own_record_laws.proofs.Common.{bytes_eq, false≢true, bytes_eq-Decides, In, Distinct, In-map, In-map_source, find-In, find-passes}
use Rattle.own_record_laws.proofs.Common.{In-from_list_any, list_any-of_In, Distinct-unmap, NodeRec, TermRec, FetRec, CellExt, IsLawful, names_of}
use Rattle.own_record_laws.proofs.Common.{AreInNameOrder, has_name, AreFlatNodes}
use Rattle.full_names.proofs.FiniteSets.Searches.{find-none}
use Rattle.full_names.proofs.FiniteSets.Images.{one_from_Distinct}
use Rattle.full_names.specs.CircuitModel.FlatFets.{node_name, side_name, IsFlatFet}
use Rattle.own_record_laws.proofs.OneElement.{root_of}
use Rattle.own_record_laws.proofs.Parts.{one_owner, sum_on-only}
use Rattle.own_record_laws.proofs.FlatNames.{name_is, among_names}
use Rattle.own_record_laws.proofs.SameNodes.{flat_is_own, own_is_flat}

-- The name is the preferred one of a node.
pub record IsPreferred (nodes : List NodeRec) (name : List ℕ) : Type 0 where
  pub node : NodeRec
  pub listed : In node nodes
  pub is : node.name ≡ name

-- the names of a transistor's terminals
abbrev pub sides_of : FetRec → List (List ℕ)
sides_of fet = map (λ (side : TermRec). side.node) fet.terminals

module _ (ext : CellExt) (lawful : IsLawful ext) (merges : ext.merges ≡ []) (ordered : (node : NodeRec) → In node ext.nodes → AreInNameOrder (names_of node))
    (nodes : List NodeRec) (are : AreFlatNodes (root_of ext ∷ []) (length ext.classes) nodes) where
  -- what is found of a preferred name is its node
  found_name : (name : List ℕ) → IsPreferred ext.nodes name → (found : Option NodeRec) → find (λ (node : NodeRec). has_name node name) nodes ≡ found
      → elim found [ Some node ↦ node.name | None ↦ [] ] ≡ name
  found_name name preferred None none =
      let node = preferred.node in
      let flat = own_is_flat ext lawful merges ordered nodes are node preferred.listed in
      let fails = find-none (λ (n : NodeRec). has_name n name) nodes node none flat in
      absurd (false≢true (sym fails ∙ list_any-of_In bytes_eq bytes_eq-Decides name (names_of node) (inl preferred.is)))
  found_name name preferred (Some flat) found =
      let test : NodeRec → Bool = λ n. has_name n name in
      let own = flat_is_own ext lawful merges ordered nodes are flat (find-In test nodes flat found) in
      let has = In-from_list_any bytes_eq bytes_eq-Decides name (names_of flat) (find-passes test nodes flat found) in
      let same = one_owner names_of ext.nodes name flat preferred.node lawful.node_names_differ own preferred.listed has (inl preferred.is) in
      ap (λ (n : NodeRec). n.name) same ∙ preferred.is

  -- a side goes by the preferred name that it has
  side_is : (side : TermRec) → IsPreferred ext.nodes side.node → side_name nodes (root_of ext) side ≡ side.node
  side_is side preferred =
      let P : List ℕ → Type 0 = λ name. In name (names_of preferred.node) in
      let full = name_is ext lawful side.node (among_names ext lawful preferred.node side.node preferred.listed (inl preferred.is)) in
      ap (node_name nodes) full ∙ found_name side.node preferred (find (λ (node : NodeRec). has_name node side.node) nodes) refl

  module _ (fet flat : FetRec) (is : IsFlatFet nodes (root_of ext) fet flat) (gate : IsPreferred ext.nodes fet.gate.node)
      (preferred : (side : TermRec) → In side fet.terminals → IsPreferred ext.nodes side.node) (distinct : Distinct (sides_of fet)) where
    -- the gate is the same
    pub same_gate : flat.gate ≡ fet.gate
    same_gate =
        let node : flat.gate.node ≡ fet.gate.node = is.gate ∙ side_is fet.gate gate in
        let length : flat.gate.length ≡ fet.gate.length = is.gate_length in
        (λ i. record { node = node i; length = length i })

    -- a side of the flat transistor with the name of a terminal is the terminal
    same_side : (side part : TermRec) → In side flat.terminals → In part fet.terminals → part.node ≡ side.node → side ≡ part
    same_side side part here there named =
        let test : TermRec → Bool = λ p. bytes_eq side.node (side_name nodes (root_of ext) p) in
        let passes : test part ≡ true =
        (bytes_eq-Decides side.node (side_name nodes (root_of ext) part)).1 (sym named ∙ sym (side_is part (preferred part there))) in
        let only : (p : TermRec) → In p fet.terminals → test p ≡ true → p ≡ part = λ p h yes_p.
        one_from_Distinct (λ (t : TermRec). t.node) fet.terminals p part distinct h there
        (sym (side_is p (preferred p h)) ∙ sym ((bytes_eq-Decides side.node (side_name nodes (root_of ext) p)).0 yes_p) ∙ sym named) in
        let once = Distinct-unmap (λ (t : TermRec). t.node) fet.terminals distinct in
        let length : side.length ≡ part.length = is.lengths side here ∙ sum_on-only test (λ p. p.length) part fet.terminals once there passes only in
        (λ i. record { node = sym named i; length = length i })

    -- each terminal of the flat transistor is one of the record's
    pub terminals_over : (side : TermRec) → In side flat.terminals → In side fet.terminals
    terminals_over side here =
        let found = In-map_source (side_name nodes (root_of ext)) side.node fet.terminals
        ((is.terminals side.node).0 (In-map (λ (t : TermRec). t.node) side flat.terminals here)) in
        let named : found.0.node ≡ side.node = sym (side_is found.0 (preferred found.0 found.1.0)) ∙ found.1.1 in
        subst (λ (t : TermRec). In t fet.terminals) (sym (same_side side found.0 here found.1.0 named)) found.1.0

    -- and each of the record's is one of the flat transistor's
    pub terminals_back : (part : TermRec) → In part fet.terminals → In part flat.terminals
    terminals_back part there =
        let P : List ℕ → Type 0 = λ name. In name (map (side_name nodes (root_of ext)) fet.terminals) in
        let named = subst P (side_is part (preferred part there)) (In-map (side_name nodes (root_of ext)) part fet.terminals there) in
        let found = In-map_source (λ (t : TermRec). t.node) part.node flat.terminals ((is.terminals part.node).1 named) in
        subst (λ (t : TermRec). In t flat.terminals) (same_side found.0 part found.1.0 there (sym found.1.1)) found.1.0
