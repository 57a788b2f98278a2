-- Members that have numbers, by the nodes that are known to be of them.
use Rattle.std.specs.Prelude.{◌≡◌, ◌⊎◌, ◌&&◌, ℕ, nat_eq, Bool, List, [], ◌∷◌, ◌++◌, length, Some, slice_get}
use Rattle.std.specs.HashMap.{get}
use Rattle.ext_model.specs.declared.records.NodeRec.{NodeRec}
use Rattle.layout_model.specs.CellTrees.{Standing, standings}
use Rattle.element_paths.specs.CellLibrary.LayoutTrees.{tree_at}
use Rattle.element_paths.specs.CellLibrary.Views.{LibraryView}
use Rattle.tile_members.specs.declared.known_members.KnownMembers.{KnownMembers}
use Rattle.tile_members.specs.declared.opened_cells.OpenedCell.{OpenedCell}
use Rattle.tile_members.specs.declared.opened_cells.OpenedCells.{OpenedCells}
use Rattle.tile_members.specs.steps.MemberNames.{LeadsToMember}

-- whether two numbers of elements are the same, and two numbers of nodes of these
abbrev pub same_key : ℕ × ℕ → ℕ × ℕ → Bool
same_key a b = nat_eq a.0 b.0 && nat_eq a.1 b.1

-- The name has this number, and was among the names or came behind them.
pub record AddsName (old new : List (List ℕ)) (name : List ℕ) (number : ℕ) : Type 0 where
  pub there : slice_get new number ≡ Some name
  pub added : (new ≡ old) ⊎ ((new ≡ old ++ name ∷ []) × (number ≡ length old))

-- No name came, or one came and has this number.
abbrev pub AddsNameOrNone : List (List ℕ) → List (List ℕ) → ℕ → Type 0
AddsNameOrNone old new number = (new ≡ old) ⊎ ((name : List ℕ) × (new ≡ old ++ name ∷ []) × (number ≡ length old))

-- The node with this number, of what stands with this number at or below the cell, is of the member with that number.
pub record IsOfMember (view : LibraryView) (cell : ℕ) (opened : OpenedCells) (names : List (List ℕ)) (key : ℕ × ℕ) (number : ℕ) : Type 0 where
  pub standing : Standing
  pub stands : slice_get (standings (tree_at view cell)) key.0 ≡ Some standing
  pub of : OpenedCell
  pub is_open : get nat_eq opened.entries standing.own.cell ≡ Some of
  pub node : NodeRec
  pub node_there : slice_get of.found.nodes key.1 ≡ Some node
  pub name : List ℕ
  pub name_there : slice_get names number ≡ Some name
  pub leads : LeadsToMember view cell key.0 node.name name

-- The numbers that nodes have are those of their members, and the index has the names.
pub record AreKnown (view : LibraryView) (cell : ℕ) (opened : OpenedCells) (known : KnownMembers) : Type 0 where
  pub indexed : known.index ≡ known.names.items
  pub each : (key : ℕ × ℕ) (number : ℕ) → get same_key known.numbers key ≡ Some number
      → IsOfMember view cell opened known.names.items key number
