-- The cells that stand at and below a cell of a library: they are cells of the library, and their transforms are in reach.
use Rattle.tile_members.proofs.Common.{◌≡◌, ◌+◌, ◌<◌, ℕ, zero, suc, List, [], ◌∷◌, length, refl, sym, ap, subst, ◌∙◌, arith, inl, inr, slice_get, In}
use Rattle.tile_members.proofs.Common.{In-append_cases, In-slice_get, Transform, composed, identity, MovesInReach, CellTree, Standing, standings}
use Rattle.tile_members.proofs.Common.{MOST_DEPTH, LibraryParts, IsLawfulLibrary, seen, view_at, UsesWithIds}
use Rattle.std.proofs.Common.{ℤ}
use Rattle.std.specs.Prelude.{Some}
use Rattle.layout_model.specs.CellTrees.{Elements}
use Rattle.element_paths.specs.CellTree.declared.use_tables.UseBody.{UseBody}
use Rattle.element_paths.specs.CellTree.Trees.{cell_at}
use Rattle.element_paths.specs.CellTree.Uses.{displacements, IsLawfulUse}
use Rattle.element_paths.specs.CellLibrary.LayoutTrees.{element_transform, elements_at, elements_from, own_cell, tree_at, tree_to}
use Rattle.element_paths.specs.CellLibrary.Spots.{HasRoomToMove}
use Rattle.element_paths.specs.CellLibrary.steps.VisitedTiles.{placed_below, placed_cells}
use Rattle.element_paths.proofs.CellLibrary.GridSpots.{element_moves, room_below, room_in_reach}
use Rattle.element_paths.proofs.CellLibrary.LayoutTreeLaws.{children_are_cells, uses_seen, state_is}
use Rattle.element_paths.proofs.CellLibrary.PlacedCells.{standings_placed}
use Rattle.element_paths.proofs.CellLibrary.VisitLaws.{top_can_be_visited}

-- The cell that stands there is one of the library, and moved in reach.
pub record IsStandingCell (library : LibraryParts) (standing : Standing) : Type 0 where
  pub own : standing.own ≡ own_cell (seen library) standing.own.cell
  pub there : standing.own.cell < length library.contents
  pub moves : MovesInReach standing.placed

-- The use is lawful, and its child is a cell of the library.
record IsUseOf (library : LibraryParts) (entry : List ℕ × UseBody) : Type 0 where
  lawful : IsLawfulUse entry.1
  child : entry.1.child.0 < length library.contents

-- The same of each of these uses.
abbrev AreUsesOf : LibraryParts → UsesWithIds → Type 0
AreUsesOf library uses = (k : ℕ) (entry : List ℕ × UseBody) → slice_get uses k ≡ Some entry → IsUseOf library entry

-- the uses of a cell of a lawful library
uses_of : (library : LibraryParts) → IsLawfulLibrary library → (cell : ℕ) → cell < length library.contents
    → AreUsesOf library (view_at (seen library) cell).uses
uses_of library lawful cell below k entry is =
    let there : slice_get (cell_at library.tree.cells cell).uses k ≡ Some entry =
    sym (ap (λ (uses : UsesWithIds). slice_get uses k) (uses_seen library lawful cell below)) ∙ is in
    record {
      lawful = (lawful.tree.cells.uses cell (cell_at library.tree.cells cell) (state_is library lawful cell below) k entry there).0;
      child = children_are_cells library lawful cell below k entry is;
    }

-- What holds of all that stands in elements of one child and in those behind them, holds of all of these.
at_elements : (P : Standing → Type 0) (step : ℕ) (outer : Transform) (tree : CellTree) (placed : Transform) (steps : List (ℤ × ℤ)) (rest : Elements)
    → ((k part : ℕ) (displaced : ℤ × ℤ) → slice_get steps k ≡ Some displaced → (standing : Standing)
    → In standing (placed_cells 0 part (composed (element_transform placed displaced) outer) tree) → P standing)
    → ((part : ℕ) (standing : Standing) → In standing (placed_below step part outer rest) → P standing)
    → (part : ℕ) (standing : Standing) → In standing (placed_below step part outer (elements_at tree placed steps rest)) → P standing
at_elements P step outer tree placed [] rest each later part standing stands = later part standing stands
at_elements P step outer tree placed (displaced ∷ steps) rest each later part standing stands =
    elim (In-append_cases standing (placed_cells 0 part (composed (element_transform placed displaced) outer) tree)
    (placed_below step (part + step) outer (elements_at tree placed steps rest)) stands) [
      | inl here ↦ each zero part displaced refl standing here
      | inr behind ↦
          at_elements P step outer tree placed steps rest (λ k. each (suc k)) later (part + step) standing behind
    ]

module _ (library : LibraryParts) (lawful : IsLawfulLibrary library) where
  -- what stands in the elements of uses, where it does in those of each child that is moved in reach
  in_uses : (levels step : ℕ) (trees : ℕ → CellTree) (outer : Transform) → HasRoomToMove (suc levels) outer
      → ((cell part : ℕ) (placed : Transform) → cell < length library.contents → HasRoomToMove levels placed → (standing : Standing)
      → In standing (placed_cells 0 part placed (trees cell)) → IsStandingCell library standing)
      → (uses : UsesWithIds) → AreUsesOf library uses → (part : ℕ) (standing : Standing)
      → In standing (placed_below step part outer (elements_from trees uses)) → IsStandingCell library standing
  in_uses levels step trees outer room each [] are part standing none = absurd none
  in_uses levels step trees outer room each (entry ∷ rest) are part standing stands =
      let first = are zero entry refl in
      at_elements (IsStandingCell library) step outer (trees entry.1.child.0) entry.1.placed (displacements entry.1.grid) (elements_from trees rest)
      (λ k own_part displaced there. each entry.1.child.0 own_part (composed (element_transform entry.1.placed displaced) outer) first.child
      (room_below levels (element_transform entry.1.placed displaced) outer (element_moves entry.1 k displaced first.lawful there) room))
      (in_uses levels step trees outer room each rest (λ k. are (suc k))) part standing stands

  -- the cell at the top
  top_stands : (cell part : ℕ) (placed : Transform) → cell < length library.contents → MovesInReach placed → (standing : Standing)
      → record { part = part; own = own_cell (seen library) cell; placed = placed } ≡ standing → IsStandingCell library standing
  top_stands cell part placed below moves standing same =
      subst (IsStandingCell library) same (record { own = refl; there = below; moves = moves })

  -- what stands at and below a cell that has room to be moved
  stand_to : (levels step cell part : ℕ) (placed : Transform) → cell < length library.contents → HasRoomToMove levels placed → (standing : Standing)
      → In standing (placed_cells step part placed (tree_to (seen library) levels cell)) → IsStandingCell library standing
  stand_to zero step cell part placed below room standing (inl same) =
      top_stands cell part placed below (room_in_reach zero placed room) standing same
  stand_to zero step cell part placed below room standing (inr none) = absurd none
  stand_to (suc levels) step cell part placed below room standing (inl same) =
      top_stands cell part placed below (room_in_reach (suc levels) placed room) standing same
  stand_to (suc levels) step cell part placed below room standing (inr lower) =
      in_uses levels step (tree_to (seen library) levels) placed room (λ c p. stand_to levels 0 c p) (view_at (seen library) cell).uses
      (uses_of library lawful cell below) (part + step) standing lower

  -- all that stands at and below a cell of the library
  pub standing_cells : (cell element : ℕ) (standing : Standing) → cell < length library.contents
      → slice_get (standings (tree_at (seen library) cell)) element ≡ Some standing → IsStandingCell library standing
  unfolding tree_at
  standing_cells cell element standing below is =
      let count : cell < length library.tree.cells = omega (arith, lawful.so_many, below) in
      let tree = tree_to (seen library) MOST_DEPTH cell in
      stand_to MOST_DEPTH 1 cell 0 identity below (top_can_be_visited library.tree cell lawful.tree count).moves standing
      (subst (In standing) (standings_placed tree) (In-slice_get (standings tree) element standing is))
