-- The elements of a tree of records as cells that stand, so far as transistors are concerned.
use Rattle.tree_circuits.proofs.Common.{Some, slice_get, Square, image, RawTech, NodeRec, full_name, Element, ids_of, placed, node_name}
use Rattle.tree_circuits.proofs.Common.{AreFetRecords, IsNodeBefore, NamedTree, NamedStanding, named_standings, GivesFlatNames}
use Rattle.std.specs.Prelude.{◌≡◌, ℕ, List}

-- The element is the cell as it stands: the same names lead to it, its uses move squares as the cell's transform does, and its record has
-- the
-- transistors of the cell's own layout.
pub record HasFetsOf (raw : RawTech) (standing : NamedStanding) (element : Element) : Type 0 where
  pub ids : ids_of element ≡ standing.ids
  pub moves : (square : Square) → placed element.uses square ≡ image standing.placed square
  pub fets : AreFetRecords raw standing.own.layout standing.own.labels
      (IsNodeBefore raw standing.own.layout standing.own.labels) element.ext.fets

-- For each node of an own layout, as its cell stands: among these records of flat nodes, the one that is found by the full name of the
-- node's
-- name goes by the name of the flat node in which the node's places lie.
abbrev pub GiveFlatNames : RawTech → NamedTree → List NodeRec → Type 0
GiveFlatNames raw tree nodes =
    (position : ℕ) (standing : NamedStanding) → slice_get (named_standings tree) position ≡ Some standing
    → GivesFlatNames raw tree standing (λ name. node_name nodes (full_name standing.ids name))
