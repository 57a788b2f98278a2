-- The node that is found by a full name goes by the name of the flat node.
use Rattle.tree_circuits.proofs.Common.{◌≡◌, ℕ, Bool, List, [], refl, sym, subst, Some, bytes_eq-Decides, bytes_eq, stay, In, Chain-append}
use Rattle.tree_circuits.proofs.Common.{IsLeast-iff, In-from_list_any, absent-from_list_any, In-slice_get, RawTech, NodeRec, full_name, path_text}
use Rattle.tree_circuits.proofs.Common.{names_of, IsMaterial, Place, Element, node_name, has_name, IsNoLaterName, AreOneFlatNode, HasNodePath}
use Rattle.tree_circuits.proofs.Common.{IsFlatName, IsOfFlatNode, flat_layout, NamedTree, named_standings, place_forth, full_name-path}
use Rattle.std.specs.Prelude.{None, Option, find}
use Rattle.finite_sets.proofs.Searches.{find-In, find-none, find-passes}
use Rattle.tree_names.specs.CircuitModel.FullNames.{AreOneNode}
use Rattle.tree_names.specs.CircuitNodes.{NameFlatNodes}
use Rattle.tree_names.specs.Laws.{NamesTellFlatNodes}
use Rattle.tree_names.proofs.GroupNodes.{flat_node_back}
use Rattle.tree_names.proofs.OwnNames.{goes_by_own}
use Rattle.tree_circuits.proofs.FetElements.{GiveFlatNames}
use Rattle.tree_circuits.proofs.StandingPaths.{standing_path}

module _ (raw : RawTech) (tree : NamedTree) (elements : List Element) (tell : NamesTellFlatNodes raw tree elements) (nodes : List NodeRec)
    (named : NameFlatNodes raw tree nodes)
    (material : (place : Place) (path : List ℕ) → HasNodePath raw tree place path → IsMaterial (flat_layout raw tree) place) where
  -- places of one flat node have one preferred name
  name_along : (name : List ℕ) (a b : Place) → AreOneFlatNode raw tree a b → IsMaterial (flat_layout raw tree) b
      → IsOfFlatNode raw tree name a
      → IsOfFlatNode raw tree name b
  name_along name a b joined there is = record {
    material = there;
    first = IsLeast-iff IsNoLaterName (IsFlatName raw tree a) (IsFlatName raw tree b)
        (λ n has. record {
          other = has.other;
          together = Chain-append (flat_node_back raw tree joined) has.together;
          path = has.path;
          has_path = has.has_path;
          full = has.full;
        })
        (λ n has. record {
          other = has.other;
          together = Chain-append joined has.together;
          path = has.path;
          has_path = has.has_path;
          full = has.full;
        }) name is.first;
  }

  -- the full name of a path is a name of the flat node of its place
  path_name : (place : Place) (path : List ℕ) → HasNodePath raw tree place path → IsFlatName raw tree place (full_name [] path)
  path_name place path here = record { other = place; together = stay; path = path; has_path = here; full = refl }

  -- places whose flat nodes have a name in common are of one flat node
  one_node : (a b : Place) (path : List ℕ) → HasNodePath raw tree a path → IsFlatName raw tree b (full_name [] path)
      → AreOneFlatNode raw tree b a
  one_node a b path here has =
      Chain-append has.together
      ((tell.nodes has.other a has.path path has.has_path here).1
      (subst (λ (name : List ℕ). AreOneNode elements (full_name [] has.path) name) (sym has.full) stay))

  -- a node that has the full name of a path goes by the name of the flat node there
  goes_by : (place : Place) (path : List ℕ) → HasNodePath raw tree place path → (node : NodeRec) → In node nodes
      → In (full_name [] path) (names_of node) → IsOfFlatNode raw tree node.name place
  goes_by place path here node listed has =
      let at = named.sound node listed in
      name_along node.name at.0 place (one_node place at.0 path here ((at.1.names (full_name [] path)).0 has))
      (material place path here) at.1.preferred

  -- and so does the node that is found by it
  found_by : (place : Place) (path : List ℕ) → HasNodePath raw tree place path → (found : Option NodeRec)
      → find (λ (node : NodeRec). has_name node (full_name [] path)) nodes ≡ found
      → IsOfFlatNode raw tree (elim found [ Some node ↦ node.name | None ↦ [] ]) place
  found_by place path here None none =
      let some = named.whole place (material place path here) in
      let test : NodeRec → Bool = λ node. has_name node (full_name [] path) in
      absurd (absent-from_list_any bytes_eq bytes_eq-Decides (full_name [] path) (names_of some.0) (find-none test nodes some.0 none some.1)
      ((some.2.names (full_name [] path)).1 (path_name place path here)))
  found_by place path here (Some node) is =
      let test : NodeRec → Bool = λ n. has_name n (full_name [] path) in
      goes_by place path here node (find-In test nodes node is)
      (In-from_list_any bytes_eq bytes_eq-Decides (full_name [] path) (names_of node) (find-passes test nodes node is))

  -- the nodes that are found go by the names of flat nodes
  pub found_names : GiveFlatNames raw tree nodes
  found_names position standing there name place of_node =
      let has = goes_by_own raw standing.own place name of_node in
      let path = path_text standing.ids name in
      let at = place_forth standing.placed place in
      let here = standing_path raw tree standing (In-slice_get (named_standings tree) position standing there) place name has in
      subst (λ (full : List ℕ). IsOfFlatNode raw tree (node_name nodes full) at) (sym (full_name-path standing.ids name))
      (found_by at path here (find (λ (node : NodeRec). has_name node (full_name [] path)) nodes) refl)
