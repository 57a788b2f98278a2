-- The nodes that the records mean go by the names of the flat nodes.
use Rattle.tree_names.proofs.Common.{ℕ, List, [], inl, inr, subst, ◌↔◌, In, Chain-append, Chain-either_back, AreOneForOne, RawTech, KeepsRules}
use Rattle.tree_names.proofs.Common.{IsWellFormed, CellExt, NodeRec, full_name, names_of, Place, Element, AreLinked, AreOneNode, pairwise_names}
use Rattle.tree_names.proofs.Common.{HasNodePath, IsFlatName, NamedTree, named_standings, HasTreeRecords, IsCleanTree, IsElementFor}
use Rattle.name_classes.specs.CircuitModel.FlatNodes.{AreFlatNodes, IsFlatNode}
use Rattle.tree_names.specs.CircuitNodes.{IsNamedAsFlatNode, NameFlatNodes}
use Rattle.tree_names.proofs.FlatNames.{flat_names_are, full_path, path_full}
use Rattle.tree_names.proofs.RecordedNodes.{path_material, some_path}

module _ (raw : RawTech) (formed : IsWellFormed raw) (rules : KeepsRules raw) (tree : NamedTree) (is : IsCleanTree raw tree)
    (exts : List CellExt)
    (has : HasTreeRecords raw exts tree) (elements : List Element)
    (are : AreOneForOne (IsElementFor raw exts) (named_standings tree) elements) where
  -- a node that has the full name of a path of the place has the names of the place's flat node
  named_as : (classes : ℕ) (node : NodeRec) → IsFlatNode elements classes node → (place : Place) (path : List ℕ)
      → HasNodePath raw tree place path
      → In (full_name [] path) (names_of node) → IsNamedAsFlatNode raw tree place node
  named_as classes node flat place path here listed =
      let full = full_name [] path in
      let joined : AreOneNode elements node.name full = ((flat.names full).0 listed).1 in
      let back = Chain-either_back (AreLinked elements) joined in
      let names : (name : List ℕ) → In name (names_of node) ↔ IsFlatName raw tree place name = λ name.
      (let same = flat_names_are raw formed rules tree is exts has elements are place path here name in (
        (λ within. let one = (flat.names name).0 within in same.1 (one.0, Chain-append back one.1)),
        (λ of. let one = same.0 of in (flat.names name).1 (one.0, Chain-append joined one.1)),
      )) in
      record {
        names = names;
        preferred = record {
          material = path_material raw formed rules tree is place path here;
          first = (
            (names node.name).0 (inl (λ i. node.name)),
            λ name of. elim ((names name).1 of) [
              | inl same ↦ inl same
              | inr alias ↦ inr ((pairwise_names (names_of node) flat.in_order).0 name alias)
            ],
          );
        };
      }

  -- the nodes that the records mean have the names of the flat nodes
  pub name_flat_nodes : (classes : ℕ) (nodes : List NodeRec) → AreFlatNodes elements classes nodes → NameFlatNodes raw tree nodes
  name_flat_nodes classes nodes are_flat = record {
    sound = λ node listed.
        let flat = are_flat.sound node listed in
        let own : In node.name (names_of node) = inl (λ i. node.name) in
        let found = full_path raw formed rules tree is exts has elements are node.name ((flat.names node.name).0 own).0 in (
          found.place,
          named_as classes node flat found.place found.path found.has
              (subst (λ (name : List ℕ). In name (names_of node)) found.full own),
        );
    whole = λ place material.
        let found = some_path raw formed rules exts tree is has place material in
        let node = are_flat.total (full_name [] found.0) (path_full raw formed rules tree is exts has elements are place found.0 found.1) in
        (node.0, node.1.0, named_as classes node.0 (are_flat.sound node.0 node.1.0) place found.0 found.1 node.1.1);
  }
