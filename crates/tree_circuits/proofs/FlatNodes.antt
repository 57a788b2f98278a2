-- The nodes that records mean are the nodes of the flat layout.
use Rattle.tree_circuits.proofs.Common.{◌≡◌, ◌≤◌, List, [], refl, length, Some, stay, In, RawTech, KeepsRules, IsWellFormed, full_name, CellExt}
use Rattle.tree_circuits.proofs.Common.{NodeRec, Place, LONGEST_CHAIN, elements_of, ext_of, AreFlatNodes, NamedTree, own_body, HasTreeRecords}
use Rattle.tree_circuits.proofs.Common.{IsCleanTree, depth_of, name_flat_nodes, elements_for}
use Rattle.tree_names.specs.TreeRecords.TreeCircuits.{IsFlatNodeRecord}
use Rattle.tree_names.specs.CircuitNodes.{IsNamedAsFlatNode}
use Rattle.tree_names.proofs.NodePoints.{point_of}
use Rattle.tree_names.proofs.RecordedNodes.{some_path}
use Rattle.tree_circuits.specs.SumLaws.{HasFlatNodes}
use Rattle.tree_circuits.proofs.FlatMeasures.{measured}

module _ (raw : RawTech) (exts : List CellExt) (tree : NamedTree) (root : CellExt) (nodes : List NodeRec) (well : IsWellFormed raw)
    (rules : KeepsRules raw) (is : IsCleanTree raw tree) (has : HasTreeRecords raw exts tree) (found : ext_of exts (own_body tree).name ≡ Some root)
    (deep : depth_of tree ≤ LONGEST_CHAIN) (are : AreFlatNodes (elements_of exts root) (length root.classes) nodes) where
  -- a node with the names of the flat node at a place is its record
  flat_node_record : (node : NodeRec) (place : Place) → In node nodes → IsNamedAsFlatNode raw tree place node → IsFlatNodeRecord raw tree place node
  flat_node_record node place listed named =
      let flat = are.sound node listed in
      let material = named.preferred.material in
      let path = some_path raw well rules exts tree is has place material in
      let among = (named.names (full_name [] path.0)).1 (record { other = place; together = stay; path = path.0; has_path = path.1; full = refl }) in
      let has_measures = measured raw exts tree root node well rules is has found deep flat place path.0 path.1 among in
      record {
        material = material;
        in_order = flat.in_order;
        names = named.names;
        point = point_of raw well exts tree is.typed (elements_of exts root) (elements_for raw exts tree root has found deep) (length root.classes) node flat;
        measures = has_measures.measures;
        cap = has_measures.cap;
      }

  -- the nodes are those of the flat layout
  pub flat_nodes_are : HasFlatNodes raw tree nodes
  flat_nodes_are =
      let name = name_flat_nodes raw well rules tree is exts has (elements_of exts root) (elements_for raw exts tree root has found deep)
      (length root.classes) nodes are in
      record {
        sound = λ node listed. let at = name.sound node listed in (at.0, flat_node_record node at.0 listed at.1);
        whole = λ place material.
            let at = name.whole place material in
            record { node = at.0; listed = at.1; is = flat_node_record at.0 place at.1 at.2 };
        in_order = are.in_order;
      }
