-- Where the elements of the uses of a cell stand in a cell above it.
use Rattle.std.specs.Prelude.{◌≡◌, ℕ, ◌+◌, ◌*◌, ◌≤◌, ◌<◌, List, length, take, Some}
use Rattle.geo_core.specs.declared.squares.Rect.{Rect}
use Rattle.geo_core.specs.declared.transforms.Transform.{Transform}
use Rattle.cell_tree.specs.declared.limits.TheConstants.{MOST_ELEMENTS_BELOW}
use Rattle.cell_tree.specs.declared.sizes.Size.{Size}
use Rattle.cell_tree.specs.declared.use_tables.UseBody.{UseBody}
use Rattle.cell_tree.specs.Sizes.{size_at}
use Rattle.cell_tree.specs.Trees.{Tree, cell_at}
use Rattle.cell_tree.specs.Uses.{displacements}
use Rattle.cell_library.specs.declared.spots.Spot.{Spot}
use Rattle.cell_library.specs.declared.spots.UsePlace.{UsePlace}
use Rattle.cell_library.specs.Spots.{spots_at, spots_from, HasRoomToMove, StandsApart}

-- A spot whose cell has no hull that meets the area.
abbrev pub IsApart : List Size → Transform → Rect → Spot → Type 0
IsApart sizes outer back spot = (hull : Rect) → (size_at sizes spot.cell.0).hull ≡ Some hull → StandsApart hull outer back spot

-- the spots of the elements of a use at a place
abbrev pub spots_of_use : List Size → UsePlace → UseBody → List Spot
spots_of_use sizes from used =
    spots_at from.part_step (size_at sizes used.child.0).elements from.outer used (displacements used.grid) from.part from.element

-- the spots of all elements of the cell at a spot
abbrev pub spots_under : Tree → ℕ → Spot → List Spot
spots_under tree step spot = spots_from step (size_at tree.sizes) spot.to_top (cell_at tree.cells spot.cell.0).uses (spot.part + step)
    (spot.element + 1)

-- The spot's numbers and its transform leave room for the elements of its cell.
pub record HasRoomBelow (tree : Tree) (step : ℕ) (spot : Spot) : Type 0 where
  pub cell : spot.cell.0 < length tree.cells
  pub moves : HasRoomToMove 1 spot.to_top
  pub elements : spot.element + (size_at tree.sizes spot.cell.0).elements ≤ MOST_ELEMENTS_BELOW
  pub parts : spot.part + step * (size_at tree.sizes spot.cell.0).elements ≤ MOST_ELEMENTS_BELOW

-- the spots of the elements of the first uses of the cell at a spot
abbrev pub spots_before : Tree → ℕ → Spot → ℕ → List Spot
spots_before tree step spot k =
    spots_from step (size_at tree.sizes) spot.to_top (take k (cell_at tree.cells spot.cell.0).uses) (spot.part + step) (spot.element + 1)
