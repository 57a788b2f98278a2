-- The tiles that a visit of a cell tells: where the cells at and below it stand, and which tiles they have in an area.
use Rattle.std.specs.Prelude.{◌≡◌, ◌≢◌, ℕ, ◌+◌, ◌<◌, List, [], ◌∷◌, ◌++◌, Some, slice_get}
use Rattle.geo_core.specs.FiniteSets.Lists.{In, Distinct}
use Rattle.geo_core.specs.declared.squares.Rect.{Rect}
use Rattle.geo_core.specs.declared.transforms.Transform.{Transform}
use Rattle.geo_core.specs.Areas.{common_rect}
use Rattle.geo_core.specs.Covering.{Covers, IsProper}
use Rattle.geo_core.specs.Images.{composed, rect_image}
use Rattle.geo_core.specs.Strips.{IsStrip}
use Rattle.cell_bodies.specs.LayoutModel.Places.{Place}
use Rattle.cell_bodies.specs.LayoutModel.CellTrees.{CellTree, Elements, Standing, place_back}
use Rattle.cell_bodies.specs.LayoutModel.CellTrees.CellTree.{cell_tree}
use Rattle.cell_bodies.specs.LayoutModel.CellTrees.Elements.{no_elements, element_and}
use Rattle.cell_library.specs.declared.part_tiles.PartTile.{PartTile}

-- Where all cells of a tree stand that itself stands under a transform, in order. The first has this part, and the parts of the elements
-- rise from one to the next by this step; all that stands below an element has its part.
abbrev mutual
  pub placed_cells : ℕ → ℕ → Transform → CellTree → List Standing
  placed_cells step part placed (cell_tree own elements) = record {
    part = part;
    own = own;
    placed =
        placed;
  } ∷ placed_below step (part + step) placed elements

  pub placed_below : ℕ → ℕ → Transform → Elements → List Standing
  placed_below step part outer no_elements = []
  placed_below step part outer (element_and placed tree rest) = placed_cells 0 part (composed placed outer) tree ++ placed_below step
      (part + step) outer rest

-- The tile is a strip of the standing cell's own layout, cut to the area.
pub record IsCutOf (standing : Standing) (area : Rect) (tile : PartTile) : Type 0 where
  pub part : tile.part ≡ standing.part
  pub of : tile.of.0 ≡ standing.own.cell
  pub to_cell : tile.to_cell ≡ standing.placed
  pub strip : Rect
  pub is_strip : IsStrip (λ square. standing.own.layout (record { plane = tile.plane; square = square }) ≡ tile.kind.0) strip
  pub material : tile.kind.0 ≢ 0
  pub cut : tile.area ≡ common_rect (rect_image standing.placed strip) area
  pub meets : IsProper tile.area

-- The tile is one of the standing cell with its number, where the first of them has this number.
pub record IsTileAmong (cells : List Standing) (first : ℕ) (area : Rect) (tile : PartTile) : Type 0 where
  pub k : ℕ
  pub at : tile.element ≡ first + k
  pub standing : Standing
  pub there : slice_get cells k ≡ Some standing
  pub cut : IsCutOf standing area tile

-- Some tile of the k-th standing cell covers the place.
pub record HasTileAt (first k : ℕ) (tiles : List PartTile) (place : Place) : Type 0 where
  pub tile : PartTile
  pub is_in : In tile tiles
  pub at : tile.element ≡ first + k
  pub plane : tile.plane ≡ place.plane
  pub covers : Covers tile.area place.square

-- The standing cell has something other than space at the place.
abbrev pub HasThere : Standing → Place → Type 0
HasThere standing place = standing.own.layout (place_back standing.placed place) ≢ 0

-- The list has exactly the tiles of these standing cells in the area, each once, and they cover all that the cells have there.
pub record AreTold (cells : List Standing) (first : ℕ) (area : Rect) (tiles : List PartTile) : Type 0 where
  pub distinct : Distinct tiles
  pub each : (tile : PartTile) → In tile tiles → IsTileAmong cells first area tile
  pub every : (tile : PartTile) → IsTileAmong cells first area tile → In tile tiles
  pub whole : (k : ℕ) (standing : Standing) → slice_get cells k ≡ Some standing → (place : Place) → Covers area place.square → HasThere standing place
      → HasTileAt first k tiles place

-- The tiles of these standing cells were added at the end.
pub record AddsTiles (cells : List Standing) (first : ℕ) (area : Rect) (old new : List PartTile) : Type 0 where
  pub tiles : List PartTile
  pub is : new ≡ old ++ tiles
  pub told : AreTold cells first area tiles

-- None of the standing cells has anything in the area.
abbrev pub AreOutside : Rect → List Standing → Type 0
AreOutside area cells = (standing : Standing) → In standing cells → (place : Place) → Covers area place.square → HasThere standing place → ⊥

-- The tiles of one standing cell on its first planes in the area, each once, under its number, and they cover all that it has there.
pub record AreOwnTold (planes : ℕ) (own : Standing) (number : ℕ) (area : Rect) (tiles : List PartTile) : Type 0 where
  pub distinct : Distinct tiles
  pub each : (tile : PartTile) → In tile tiles → IsCutOf own area tile × (tile.element ≡ number) × (tile.plane < planes)
  pub every : (tile : PartTile) → IsCutOf own area tile → tile.element ≡ number → tile.plane < planes → In tile tiles
  pub whole : (place : Place) → place.plane < planes → Covers area place.square → HasThere own place → HasTileAt number 0 tiles place
