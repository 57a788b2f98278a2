-- The transistors that the records of a clean cell and of all below it mean.
use Rattle.tree_circuits.proofs.Common.{ℕ, List, subst, AreOneForOne, RawTech, KeepsRules, IsWellFormed, CellExt, FetRec, NodeRec, Element}
use Rattle.tree_circuits.proofs.Common.{AreFlatFets, fets_of, AreFlatNodes, AreFetRecords, IsNodeBefore, NamedTree, NamedStanding, OwnBody}
use Rattle.tree_circuits.proofs.Common.{named_standings, AreFlatFetRecords, HasTreeRecords, IsCleanTree, IsElementFor, name_flat_nodes}
use Rattle.tree_circuits.proofs.Common.{flat_node_names, names_one_flat_node}
use Rattle.finite_sets.proofs.OneForOne.{AreOneForOne-weaker}
use Rattle.tree_names.specs.Laws.{NamesTellFlatNodes}
use Rattle.tree_names.proofs.FlatNames.{flat_names_are}
use Rattle.tree_names.proofs.RecordedNodes.{path_material}
use Rattle.tree_circuits.proofs.FetElements.{HasFetsOf}
use Rattle.tree_circuits.proofs.AllFets.{flat_fet_records}
use Rattle.tree_circuits.proofs.FoundNames.{found_names}
use Rattle.tree_circuits.proofs.OwnedChannels.{owned_channels}

-- an element that is a cell as it stands has the records of its transistors
element_fets : (raw : RawTech) (exts : List CellExt) (standing : NamedStanding) (element : Element) → IsElementFor raw exts standing element
    → HasFetsOf raw standing element
element_fets raw exts standing element is = record {
  ids = is.ids;
  moves = is.moves;
  fets = subst (λ (own : OwnBody). AreFetRecords raw own.layout own.labels (IsNodeBefore raw own.layout own.labels) element.ext.fets) is.own
      is.is.fets;
}

module _ (raw : RawTech) (formed : IsWellFormed raw) (rules : KeepsRules raw) (tree : NamedTree) (is : IsCleanTree raw tree)
    (exts : List CellExt)
    (has : HasTreeRecords raw exts tree) (elements : List Element)
    (are : AreOneForOne (IsElementFor raw exts) (named_standings tree) elements) where
  -- names tell flat nodes
  names_tell : NamesTellFlatNodes raw tree elements
  names_tell = record {
    nodes = λ a b path other here there. (
      flat_node_names raw formed rules tree is exts has elements are a b path other here there,
      names_one_flat_node raw formed rules tree is exts has elements are a b path other here there,
    );
    names = flat_names_are raw formed rules tree is exts has elements are;
  }

  -- the flat transistors are the records of the flat layout's
  pub fets_of_records : (classes : ℕ) (nodes : List NodeRec) (flats : List FetRec) → AreFlatNodes elements classes nodes
      → AreFlatFets nodes (fets_of elements) flats → AreFlatFetRecords raw tree flats
  fets_of_records classes nodes flats are_nodes are_fets =
      let named = name_flat_nodes raw formed rules tree is exts has elements are classes nodes are_nodes in
      let gives = found_names raw tree elements names_tell nodes named (path_material raw formed rules tree is) in
      flat_fet_records raw tree formed (owned_channels raw formed rules tree is.typed is.clean) nodes gives elements flats
      (AreOneForOne-weaker (IsElementFor raw exts) (HasFetsOf raw) (element_fets raw exts) (named_standings tree) elements are) are_fets
