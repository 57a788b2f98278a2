-- The flat nodes of a record without uses and merges are its nodes.
use Rattle.own_record_laws.proofs.Common.{◌≡◌, ℕ, ◌<◌, ℤ, pos, Bool, true, cond, List, [], ◌∷◌, map, length, get_or, inl, inr, refl, sym, ◌∙◌, ap}
use Rattle.own_record_laws.proofs.Common.{subst, arith, find, Some, bytes_eq, ints, bytes_eq-Decides, In, sum_on, find-In, find-passes}
use Rattle.own_record_laws.proofs.Common.{In-from_list_any, list_any-of_In, Square, NodeRec, MergeRec, CellExt, IsLawful, IsLawfulNode, names_of}
use Rattle.own_record_laws.proofs.Common.{Element, name_in, full_names, AreInNameOrder, has_name, AreFlatNodes}
use Rattle.std.proofs.Common.{drop}
use Rattle.std.proofs.lemmas.List.{ext_get_or}
use Rattle.std.proofs.lemmas.List.Elements.{All-contains}
use Rattle.full_names.proofs.FiniteSets.Members.{Contains-from_In}
use Rattle.full_names.specs.CircuitModel.Elements.{placed}
use Rattle.full_names.specs.CircuitModel.FlatNodes.{is_among, gives_name, sum_of, measure_of, IsPlaced, IsFlatNode}
use Rattle.full_names.proofs.ListOrders.{same_in_order}
use Rattle.own_record_laws.proofs.OneElement.{root_of}
use Rattle.own_record_laws.proofs.Parts.{one_owner, distinct_owners, sum_on-only}
use Rattle.own_record_laws.proofs.FlatNames.{name_is, among_names, node_names_are, full_is, from_full, one_node, of_one_node}

module _ (ext : CellExt) (lawful : IsLawful ext) (merges : ext.merges ≡ [])
    (ordered : (node : NodeRec) → In node ext.nodes → AreInNameOrder (names_of node)) where
  -- the only element
  abbrev tree : List Element
  tree = root_of ext ∷ []

  -- a flat node that has a name of one of the record's nodes has its names
  same_names : (flat part : NodeRec) → IsFlatNode tree (length ext.classes) flat → In part ext.nodes → In flat.name (names_of part)
      → names_of flat ≡ names_of part
  same_names flat part is listed here =
      same_in_order (names_of flat) (names_of part) is.in_order (ordered part listed)
      (λ name h. of_one_node ext lawful merges part listed ((is.names name).0 h).1 here)
      (λ name h. (is.names name).1
      (full_is ext lawful name (among_names ext lawful part name listed h), one_node ext lawful part flat.name name listed here h))

  -- the record's node that has a name that another has is the other
  same_part : (name : List ℕ) (a b : NodeRec) → In a ext.nodes → In b ext.nodes → In name (names_of a) → In name (names_of b) → a ≡ b
  same_part name a b = one_owner names_of ext.nodes name a b lawful.node_names_differ

  -- The flat node lies where the record's node lies, and is of its kind.
  record LiesAlike (flat part : NodeRec) : Type 0 where
    point : Path Square (record { x = flat.x; y = flat.y }) (record { x = part.x; y = part.y })
    kind : flat.kind ≡ part.kind

  -- for it lies where the first node of the tree lies that has its name
  lies_alike : (flat part : NodeRec) → IsPlaced tree flat → In part ext.nodes → In flat.name (names_of part) → LiesAlike flat part
  lies_alike flat part is listed here =
      let at : root_of ext ≡ is.element = elim (find-In (λ (e : Element). is_among (full_names e) flat.name) tree is.element is.first) [
        | inl same ↦ same
        | inr more ↦ absurd more
      ] in
      let C : Element → Type 0 = λ e. find (gives_name e flat.name) e.ext.nodes ≡ Some is.part in
      let carrier : find (gives_name (root_of ext) flat.name) ext.nodes ≡ Some is.part = subst C (sym at) is.carrier in
      let within = find-In (gives_name (root_of ext) flat.name) ext.nodes is.part carrier in
      let gives : gives_name (root_of ext) flat.name is.part ≡ true = find-passes (gives_name (root_of ext) flat.name) ext.nodes is.part carrier in
      let named = In-from_list_any bytes_eq bytes_eq-Decides flat.name (map (name_in (root_of ext)) (names_of is.part)) gives in
      let owns = subst (In flat.name) (node_names_are ext lawful is.part within) named in
      let same = same_part flat.name is.part part within listed owns here in
      let point : Path Square (record { x = flat.x; y = flat.y }) (record { x = is.part.x; y = is.part.y }) =
      is.point ∙ ap (λ (e : Element). placed e.uses (record { x = is.part.x; y = is.part.y })) (sym at) in
      record {
        point = point ∙ (λ i. record { x = (same i).x; y = (same i).y });
        kind = is.kind ∙ ap (λ (n : NodeRec). n.kind) same;
      }

  -- the flat node has of each quantity what the record's node has
  same_sum : (flat part : NodeRec) (of_node : NodeRec → ℤ) (of_merge : MergeRec → ℤ) → names_of flat ≡ names_of part → In part ext.nodes
      → sum_of flat of_node of_merge tree ≡ of_node part
  same_sum flat part of_node of_merge same listed =
      let test : NodeRec → Bool = λ n. has_name flat (name_in (root_of ext) n.name) in
      let preferred : (n : NodeRec) → In n ext.nodes → name_in (root_of ext) n.name ≡ n.name = λ n h.
      name_is ext lawful n.name (among_names ext lawful n n.name h (inl refl)) in
      let own : In (name_in (root_of ext) part.name) (names_of flat) =
      subst (λ (names : List (List ℕ)). In (name_in (root_of ext) part.name) names) (sym same)
      (subst (λ (name : List ℕ). In name (names_of part)) (sym (preferred part listed)) (inl refl)) in
      let only : (n : NodeRec) → In n ext.nodes → test n ≡ true → n ≡ part = λ n h passes.
      same_part n.name n part h listed (inl refl)
      (subst (λ (name : List ℕ). In name (names_of part)) (preferred n h)
      (subst (λ (names : List (List ℕ)). In (name_in (root_of ext) n.name) names) same
      (In-from_list_any bytes_eq bytes_eq-Decides (name_in (root_of ext) n.name) (names_of flat) passes))) in
      let distinct = distinct_owners names_of (λ (n : NodeRec). n.name) ext.nodes (λ n. inl refl) lawful.node_names_differ in
      let nodes = sum_on-only test of_node part ext.nodes distinct listed
      (list_any-of_In bytes_eq bytes_eq-Decides (name_in (root_of ext) part.name) (names_of flat) own) only in
      let none : sum_on (λ (merge : MergeRec). cond (has_name flat (name_in (root_of ext) merge.first)) (of_merge merge) (pos 0)) ext.merges ≡ pos 0 =
      ap (sum_on (λ (merge : MergeRec). cond (has_name flat (name_in (root_of ext) merge.first)) (of_merge merge) (pos 0))) merges in
      omega (arith, ints, nodes, none)

  -- and so their areas and perimeters
  same_measures : (flat part : NodeRec) → IsFlatNode tree (length ext.classes) flat → names_of flat ≡ names_of part → In part ext.nodes
      → flat.measures ≡ part.measures
  same_measures flat part is same listed =
      let of : IsLawfulNode (length ext.classes) part =
      All-contains (IsLawfulNode (length ext.classes)) ext.nodes part lawful.nodes (Contains-from_In part ext.nodes listed) in
      ext_get_or (pos 0, pos 0) flat.measures part.measures (is.measured ∙ sym of.measures.count)
      (λ class within.
      let below : class < length ext.classes = subst (λ (n : ℕ). class < n) is.measured within in
      let area = is.areas class below
      ∙ same_sum flat part (λ n. (measure_of class n.measures).0) (λ merge. (measure_of class merge.measures).0) same listed in
      let perimeter = is.perimeters class below
      ∙ same_sum flat part (λ n. (measure_of class n.measures).1) (λ merge. (measure_of class merge.measures).1) same listed in
      (λ i. (area i, perimeter i)))

  -- the flat node is the record's node
  same_node : (flat part : NodeRec) → IsFlatNode tree (length ext.classes) flat → In part ext.nodes → In flat.name (names_of part) → flat ≡ part
  same_node flat part is listed here =
      let same = same_names flat part is listed here in
      let name : flat.name ≡ part.name = ap (λ (names : List (List ℕ)). get_or names 0 []) same in
      let aliases : flat.aliases ≡ part.aliases = ap (λ (names : List (List ℕ)). drop 1 names) same in
      let alike = lies_alike flat part is.place listed here in
      let cap = is.cap ∙ same_sum flat part (λ n. n.cap) (λ merge. merge.cap) same listed in
      let measures = same_measures flat part is same listed in
      (λ i. record {
        name = name i;
        aliases = aliases i;
        cap = cap i;
        x = (alike.point i).x;
        y = (alike.point i).y;
        kind = alike.kind i;
        measures = measures i;
      })

  module _ (nodes : List NodeRec) (are : AreFlatNodes tree (length ext.classes) nodes) where
    -- each flat node is a node of the record
    pub flat_is_own : (flat : NodeRec) → In flat nodes → In flat ext.nodes
    flat_is_own flat here =
        let is = are.sound flat here in
        let own = from_full ext lawful flat.name ((is.names flat.name).0 (inl refl)).0 in
        subst (λ (n : NodeRec). In n ext.nodes) (sym (same_node flat own.node is own.listed own.named)) own.listed

    -- and each node of the record is a flat node
    pub own_is_flat : (part : NodeRec) → In part ext.nodes → In part nodes
    own_is_flat part listed =
        let found = are.total part.name (full_is ext lawful part.name (among_names ext lawful part part.name listed (inl refl))) in
        let flat = found.0 in
        let own = flat_is_own flat found.1.0 in
        subst (λ (n : NodeRec). In n nodes) (same_part part.name flat part own listed found.1.1 (inl refl)) found.1.0
