-- Full names in the only element of its tree, and which of them are of one node.
use Rattle.own_record_laws.proofs.Common.{◌≡◌, ◌⊎◌, ℕ, Bool, true, false, cond, List, [], ◌∷◌, map, inl, inr, refl, sym, ◌∙◌, ap, subst, In}
use Rattle.own_record_laws.proofs.Common.{Chain-carries, In-flat_map, NodeRec, MergeRec, CellExt, is_global, IsLawful, names_of, node_names, Element}
use Rattle.own_record_laws.proofs.Common.{name_in, full_names}
use Rattle.full_names.specs.FiniteSets.Chain.Chain.{go, stay}
use Rattle.full_names.proofs.FiniteSets.Images.{In-flat_map_source, map-fixed}
use Rattle.full_names.proofs.ExtModel.PathNames.{last_name-whole}
use Rattle.full_names.proofs.ExtModel.RecordNameLaws.{is_node_name-lawful, slashes_in-node_name}
use Rattle.full_names.specs.CircuitModel.FullNames.{IsFullName, AreLinked, AreOneNode}
use Rattle.own_record_laws.proofs.OneElement.{root_of}
use Rattle.own_record_laws.proofs.Parts.{one_owner}

-- both branches the same
either_name : (global : Bool) (name : List ℕ) → cond global name name ≡ name
either_name true name = refl
either_name false name = refl

module _ (ext : CellExt) (lawful : IsLawful ext) where
  -- a name of a node is its full name
  pub name_is : (name : List ℕ) → In name (node_names ext) → name_in (root_of ext) name ≡ name
  name_is name here =
      let last = last_name-whole name (slashes_in-node_name name (is_node_name-lawful ext lawful name here)) in
      ap (λ (end : List ℕ). cond (is_global end) end name) last ∙ either_name (is_global name) name

  -- so the full names are the names
  pub names_are : full_names (root_of ext) ≡ node_names ext
  names_are = map-fixed (name_in (root_of ext)) (node_names ext) name_is

  -- the names of a node are names of nodes
  pub among_names : (node : NodeRec) (name : List ℕ) → In node ext.nodes → In name (names_of node) → In name (node_names ext)
  among_names node name listed here = In-flat_map names_of node name ext.nodes listed here

  -- and the full names of a node are its names
  pub node_names_are : (node : NodeRec) → In node ext.nodes → map (name_in (root_of ext)) (names_of node) ≡ names_of node
  node_names_are node listed = map-fixed (name_in (root_of ext)) (names_of node) (λ name here. name_is name (among_names node name listed here))

  -- the node of the record that has the name
  pub record Has (name : List ℕ) : Type 0 where
    pub node : NodeRec
    pub listed : In node ext.nodes
    pub named : In name (names_of node)

  -- each name is that of a node
  pub node_of : (name : List ℕ) → In name (node_names ext) → Has name
  node_of name here =
      let found = In-flat_map_source names_of name ext.nodes here in
      record { node = found.0; listed = found.1.0; named = found.1.1 }

  -- and each is a full name
  pub full_is : (name : List ℕ) → In name (node_names ext) → IsFullName (root_of ext ∷ []) name
  full_is name here = (root_of ext, (inl refl, subst (In name) (sym names_are) here))

  -- a full name is that of a node of the record
  pub from_full : (name : List ℕ) → IsFullName (root_of ext ∷ []) name → Has name
  from_full name full = elim full.1.0 [
    | inl same ↦ (let P : Element → Type 0 = λ element. In name (full_names element) in node_of name (subst (In name) names_are (subst P (sym same) full.1.1)))
    | inr more ↦ absurd more
  ]

  -- two names of one node are linked through its preferred one
  pub one_node : (node : NodeRec) (a b : List ℕ) → In node ext.nodes → In a (names_of node) → In b (names_of node) → AreOneNode (root_of ext ∷ []) a b
  one_node node a b listed p q =
      let preferred : node.name ≡ name_in (root_of ext) node.name = sym (name_is node.name (among_names node node.name listed (inl refl))) in
      let link : (name : List ℕ) → In name (names_of node) → AreLinked (root_of ext ∷ []) node.name name = λ name here. (
        root_of ext,
        (
          inl refl,
          inl (record {
            node = node;
            within = listed;
            preferred = preferred;
            named = subst (In name) (sym (node_names_are node listed)) here;
          }),
        ),
      ) in
      go (inr (link a p)) (go (inl (link b q)) stay)

  module _ (merges : ext.merges ≡ []) where
    -- A node has both names.
    record AreBothOf (a b : List ℕ) : Type 0 where
      node : NodeRec
      listed : In node ext.nodes
      first : In a (names_of node)
      second : In b (names_of node)

    -- two names that are linked are names of one node
    link_is : (a b : List ℕ) → AreLinked (root_of ext ∷ []) a b → AreBothOf a b
    link_is a b (element, (inl same, inl link)) =
        let P : Element → Type 0 = λ e. In link.node e.ext.nodes in
        let listed : In link.node ext.nodes = subst P (sym same) link.within in
        let preferred : a ≡ link.node.name = link.preferred ∙ ap (λ (e : Element). name_in e link.node.name) (sym same)
        ∙ name_is link.node.name (among_names link.node link.node.name listed (inl refl)) in
        let Q : Element → Type 0 = λ e. In b (map (name_in e) (names_of link.node)) in
        record {
          node = link.node;
          listed = listed;
          first = inl (sym preferred);
          second = subst (In b) (node_names_are link.node listed) (subst Q (sym same) link.named);
        }
    link_is a b (element, (inl same, inr merged)) =
        let P : Element → Type 0 = λ e. In merged.merge e.ext.merges in
        let Q : List MergeRec → Type 0 = λ all. In merged.merge all in
        absurd (subst Q merges (subst P (sym same) merged.within))
    link_is a b (element, (inr more, link)) = absurd more

    -- what is of one node with a name of a node is a name of it
    pub of_one_node : {a b : List ℕ} (node : NodeRec) → In node ext.nodes → AreOneNode (root_of ext ∷ []) a b → In a (names_of node) → In b (names_of node)
    of_one_node node listed chain here = Chain-carries (λ (name : List ℕ). In name (names_of node)) step chain here
      where
        -- a name of the node is a name of another node only where that is the node
        over : (a b : List ℕ) (other : NodeRec) → In other ext.nodes → In a (names_of other) → In b (names_of other) → In a (names_of node)
            → In b (names_of node)
        over a b other other_listed p q mine =
            let P : NodeRec → Type 0 = λ n. In b (names_of n) in
            subst P (one_owner names_of ext.nodes a other node lawful.node_names_differ other_listed listed p mine) q

        -- each link stays within the node
        step : (a b : List ℕ) → (AreLinked (root_of ext ∷ []) a b ⊎ AreLinked (root_of ext ∷ []) b a) → In a (names_of node) → In b (names_of node)
        step a b (inl link) mine = let both = link_is a b link in over a b both.node both.listed both.first both.second mine
        step a b (inr link) mine = let both = link_is b a link in over a b both.node both.listed both.second both.first mine
