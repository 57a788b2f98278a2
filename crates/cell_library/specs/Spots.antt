-- Where the elements of a cell stand in a cell above it, and which of them an area may meet.
use Rattle.std.specs.Prelude.{◌≡◌, ◌⊎◌, ℕ, ◌+◌, ◌*◌, ◌≤◌, ◌<◌, suc, ℤ, pos, ◌+ℤ◌, ◌≤ℤ◌, List, [], ◌∷◌, ◌++◌, length, drop}
use Rattle.geo_core.specs.declared.squares.Square.{Square}
use Rattle.geo_core.specs.declared.squares.Rect.{Rect}
use Rattle.geo_core.specs.declared.squares.Piece.{Piece}
use Rattle.tech_model.specs.Types.{type_number}
use Rattle.geo_core.specs.declared.transforms.Transform.{Transform}
use Rattle.geo_core.specs.Covering.{Covers}
use Rattle.geo_core.specs.Images.{composed, image, inverted, rect_image}
use Rattle.cell_tree.specs.declared.limits.TheConstants.{MOST_DEPTH, MOST_ELEMENTS_BELOW}
use Rattle.cell_tree.specs.declared.sizes.Size.{Size}
use Rattle.cell_tree.specs.declared.use_tables.UseBody.{UseBody}
use Rattle.cell_tree.specs.Sizes.{size_at}
use Rattle.cell_tree.specs.Trees.{Tree}
use Rattle.cell_tree.specs.Uses.{displacements}
use Rattle.cell_bodies.specs.LayoutModel.CellTrees.{CellTree, Standing}
use Rattle.cell_library.specs.declared.part_tiles.PartTile.{PartTile}
use Rattle.cell_library.specs.declared.spots.Spot.{Spot}
use Rattle.cell_library.specs.LayoutTrees.{element_transform, own_cell}
use Rattle.cell_library.specs.Views.{LibraryView}
use Rattle.cell_library.specs.steps.VisitedTiles.{placed_cells, AreOutside, AreOwnTold, AddsTiles}

-- Where elements of one use stand that are displaced so far each, in a cell that itself stands under a transform. The first has this part
-- and this number. The parts rise by this step, and the numbers by this size.
abbrev pub spots_at : ℕ → ℕ → Transform → UseBody → List (ℤ × ℤ) → ℕ → ℕ → List Spot
spots_at step size outer used [] part number = []
spots_at step size outer used (displaced ∷ rest) part number =
    record { cell = used.child; to_top = composed (element_transform used.placed displaced) outer; part = part; element = number }
    ∷ spots_at step size outer used rest (part + step) (number + size)

-- where the elements of uses stand
abbrev pub spots_from : ℕ → (ℕ → Size) → Transform → List (List ℕ × UseBody) → ℕ → ℕ → List Spot
spots_from step sizes outer [] part number = []
spots_from step sizes outer (entry ∷ rest) part number =
    spots_at step (sizes entry.1.child.0).elements outer entry.1 (displacements entry.1.grid) part number
    ++ spots_from step sizes outer rest (part + length (displacements entry.1.grid) * step)
    (number + length (displacements entry.1.grid) * (sizes entry.1.child.0).elements)

-- how many elements uses have of their own
abbrev pub own_elements : List (List ℕ × UseBody) → ℕ
own_elements [] = 0
own_elements (entry ∷ rest) = length (displacements entry.1.grid) + own_elements rest

-- the cells at and below these spots, in order
abbrev pub cells_at : (ℕ → CellTree) → List Spot → List Standing
cells_at trees [] = []
cells_at trees (spot ∷ rest) = placed_cells 0 spot.part spot.to_top (trees spot.cell.0) ++ cells_at trees rest

-- Some spots were kept in order, and each of the others can be dropped.
abbrev pub AreSiftedBy : (Spot → Type 0) → List Spot → List Spot → Type 0
AreSiftedBy CanBeDropped [] kept = kept ≡ []
AreSiftedBy CanBeDropped (spot ∷ all) kept =
    (CanBeDropped spot × AreSiftedBy CanBeDropped all kept) ⊎ ((others : List Spot) × (kept ≡ spot ∷ others) × AreSiftedBy CanBeDropped all others)

-- What stands at the spots that were not kept has nothing in the area.
abbrev pub AreSifted : (ℕ → CellTree) → Rect → List Spot → List Spot → Type 0
AreSifted trees area = AreSiftedBy (λ spot. AreOutside area (placed_cells 0 spot.part spot.to_top (trees spot.cell.0)))

-- A child with this hull that stands at the spot has nothing in common with an area of the cell that uses it, which stands under a transform.
abbrev pub StandsApart : Rect → Transform → Rect → Spot → Type 0
StandsApart hull outer back spot =
    (square : Square) → Covers hull (image (inverted spot.to_top) (image outer square)) → Covers back square → ⊥

-- Each spot has the number that comes after those of all cells at the spots before it.
abbrev pub AreNumbered : (ℕ → CellTree) → ℕ → List Spot → Type 0
AreNumbered trees first [] = Unit {0}
AreNumbered trees first (spot ∷ rest) =
    (spot.element ≡ first) × AreNumbered trees (first + length (placed_cells 0 spot.part spot.to_top (trees spot.cell.0))) rest

-- What stands at some of the spots was told in order, and the others are those that were kept from a place on.
pub record AreToldTo (trees : ℕ → CellTree) (area : Rect) (own : Standing) (first : ℕ) (all kept : List Spot) (i : ℕ)
    (old now : List PartTile) : Type 0 where
  pub done : List Spot
  pub rest : List Spot
  pub is : all ≡ done ++ rest
  pub left : AreSifted trees area rest (drop i kept)
  pub adds : AddsTiles (own ∷ cells_at trees done) first area old now

-- Spots were added at the end: those of all these that were kept.
pub record AddsSpots (CanBeDropped : Spot → Type 0) (all old new : List Spot) : Type 0 where
  pub kept : List Spot
  pub is : new ≡ old ++ kept
  pub sifted : AreSiftedBy CanBeDropped all kept

-- A cell with so many levels of cells below it is moved so little that no cell below it goes out of reach.
pub record HasRoomToMove (levels : ℕ) (placed : Transform) : Type 0 where
  pub right : (placed.dx +ℤ pos (levels * 281474976710656)) ≤ℤ pos (MOST_DEPTH * 281474976710656)
  pub left : pos (levels * 281474976710656) ≤ℤ (placed.dx +ℤ pos (MOST_DEPTH * 281474976710656))
  pub up : (placed.dy +ℤ pos (levels * 281474976710656)) ≤ℤ pos (MOST_DEPTH * 281474976710656)
  pub down : pos (levels * 281474976710656) ≤ℤ (placed.dy +ℤ pos (MOST_DEPTH * 281474976710656))

-- The spot is of a cell of the tree below which are at most so many levels, and its numbers and its transform leave room for all below it.
pub record CanBeVisited (tree : Tree) (levels step : ℕ) (spot : Spot) : Type 0 where
  pub cell : spot.cell.0 < length tree.cells
  pub few : levels ≤ MOST_DEPTH
  pub deep : (size_at tree.sizes spot.cell.0).depth ≤ suc levels
  pub moves : HasRoomToMove levels spot.to_top
  pub elements : spot.element + (size_at tree.sizes spot.cell.0).elements ≤ MOST_ELEMENTS_BELOW
  pub parts : spot.part + step * (size_at tree.sizes spot.cell.0).elements ≤ MOST_ELEMENTS_BELOW

-- where the cell of a spot stands
abbrev pub standing_at : LibraryView → Spot → Standing
standing_at view spot = record { part = spot.part; own = own_cell view spot.cell.0; placed = spot.to_top }

-- the tile of the cell at a spot that a piece of one of its planes is
abbrev pub tile_at : Spot → ℕ → Piece → PartTile
tile_at spot plane piece = record {
  part = spot.part;
  element = spot.element;
  of = spot.cell;
  to_cell = spot.to_top;
  plane = plane;
  area = rect_image spot.to_top piece.area;
  kind = type_number piece.value;
}

-- Tiles of the cell at the spot on its first planes were added at the end.
pub record AddsOwn (planes : ℕ) (own : Standing) (number : ℕ) (area : Rect) (old new : List PartTile) : Type 0 where
  pub tiles : List PartTile
  pub is : new ≡ old ++ tiles
  pub told : AreOwnTold planes own number area tiles
