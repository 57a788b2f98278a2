-- The uses of a cell as they are found by area: round the elements of each goes a box, and they begin somewhere among all that stand at and
-- below the cell.
use Rattle.std.specs.Prelude.{◌≡◌, ℕ, ◌+◌, ◌*◌, ◌<◌, nat_eq, List, length, map, take, Some, unwrap_or, slice_get}
use Rattle.std.specs.HashMap.{get}
use Rattle.geo_core.specs.declared.squares.Rect.{Rect}
use Rattle.cell_tree.specs.declared.sizes.Size.{Size}
use Rattle.cell_tree.specs.declared.use_tables.UseBody.{UseBody}
use Rattle.cell_tree.specs.Hulls.{element_hulls, round_all}
use Rattle.cell_tree.specs.Sizes.{size_at, elements_below}
use Rattle.cell_tree.specs.Trees.{Tree, cell_at}
use Rattle.cell_tree.specs.Uses.{displacements}
use Rattle.cell_library.specs.declared.spots.Spot.{Spot}
use Rattle.cell_library.specs.declared.spots.UsePlace.{UsePlace}
use Rattle.cell_library.specs.declared.use_trees.TheConstants.{NO_BOX}
use Rattle.cell_library.specs.declared.use_trees.UseStart.{UseStart}
use Rattle.cell_library.specs.declared.use_trees.UseTree.{UseTree}
use Rattle.cell_library.specs.declared.use_trees.UseTrees.{UseTrees}
use Rattle.cell_library.specs.Spots.{own_elements}

-- the smallest rectangle that goes round the elements of a use, and one without squares where its child has no hull
abbrev pub use_box : List Size → UseBody → Rect
use_box sizes used = unwrap_or (round_all (element_hulls used (size_at sizes used.child.0).hull)) NO_BOX

-- where the elements of the k-th of these uses begin
abbrev pub start_at : (ℕ → Size) → List (List ℕ × UseBody) → ℕ → UseStart
start_at sizes uses k = record { elements = own_elements (take k uses); standing = elements_below sizes (take k uses) }

-- where those of the use behind one begin
abbrev pub start_behind : List Size → UseStart → UseBody → UseStart
start_behind sizes start used = record {
  elements = start.elements + length (displacements used.grid);
  standing = start.standing + length (displacements used.grid) * (size_at sizes used.child.0).elements;
}

-- where the elements of a use stand of the cell at a spot, the parts of whose elements rise by this step
abbrev pub place_at : ℕ → Spot → UseStart → UsePlace
place_at step spot start = record {
  outer = spot.to_top;
  part = spot.part + step + start.elements * step;
  part_step = step;
  element = spot.element + 1 + start.standing;
}

-- These are the uses of the cell.
pub record IsUseTree (tree : Tree) (cell : ℕ) (uses : UseTree) : Type 0 where
  pub boxes : uses.boxes ≡ map (λ entry. use_box tree.sizes entry.1) (cell_at tree.cells cell).uses
  pub starts : (k : ℕ) → k < length (cell_at tree.cells cell).uses
      → slice_get uses.starts.items k ≡ Some (start_at (size_at tree.sizes) (cell_at tree.cells cell).uses k)

-- What is kept under a cell are its uses.
abbrev pub AreUseTrees : Tree → UseTrees → Type 0
AreUseTrees tree trees = (cell : ℕ) (uses : UseTree) → get nat_eq trees.entries cell ≡ Some uses → IsUseTree tree cell uses
