-- The bodies of the cells that are made.
use Rattle.std.specs.Prelude.{◌≡◌, ◌<◌, ℕ, List, [], ◌∷◌, length, codes, Option, Some, None}
use Rattle.geo_core.specs.declared.grids.Grid.{Grid}
use Rattle.geo_core.specs.declared.squares.Rect.{Rect}
use Rattle.geo_core.specs.Images.{identity, six_of}
use Rattle.tech_model.specs.declared.raw.Label.{Label}
use Rattle.tech_model.specs.declared.raw.RawTech.{RawTech}
use Rattle.tech_model.specs.Types.{layer_named}
use Rattle.cell_library.specs.LayoutModel.Layouts.{Layout}
use Rattle.cell_library.specs.LayoutModel.Places.{Place}
use Rattle.cell_library.specs.CellBodies.declared.bodies.CellBody.{CellBody}
use Rattle.cell_library.specs.CellBodies.declared.bodies.CellUse.{CellUse}
use Rattle.cell_library.specs.OwnBoxes.{OwnBoxIs}
use Rattle.cell_library.specs.Views.{LibraryView, cell_named}
use Rattle.cell_library.specs.CellPaint.Paints.{IsSoundPaint, layout_of}
use Rattle.layout_gen.specs.declared.checks.TileLayers.{TileLayers}
use Rattle.layout_gen.specs.Generated.{diff_name, no_paint, poly_name, row_grid, row_name, stack_grid, stack_name, tile_labels, tile_layout, tile_name}

-- None of the cells is there.
pub record AreNew (view : LibraryView) : Type 0 where
  pub tile : cell_named view tile_name ≡ None
  pub row : cell_named view row_name ≡ None
  pub stack : cell_named view stack_name ≡ None

-- These are the layers of the technology.
pub record AreLayers (raw : RawTech) (layers : TileLayers) : Type 0 where
  pub poly : layer_named raw poly_name ≡ Some layers.poly.0
  pub diff : layer_named raw diff_name ≡ Some layers.diff.0
  pub poly_below : layers.poly.0 < length raw.layers
  pub diff_below : layers.diff.0 < length raw.layers

-- one use of the cell, with the grid and where the cell stands
abbrev pub array_use : List ℕ → List ℕ → Grid → CellUse
array_use cell id grid = record { cell = cell; id = id; six = six_of identity; grid = Some grid }

-- A body for the technology, with this layout, these labels and uses, and this scale. Its paint has a box, or there is none.
pub record IsMade (raw : RawTech) (own : Layout) (labels : List Label) (uses : List CellUse) (scale : ℕ × ℕ) (body : CellBody) : Type 0 where
  pub kinds : body.paint.kinds ≡ raw.types
  pub planes : length body.paint.planes ≡ length raw.planes
  pub own_is : (place : Place) → layout_of body.paint place ≡ own place
  pub sound : IsSoundPaint body.paint.kinds (layout_of body.paint)
  pub box : Option Rect
  pub box_is : OwnBoxIs (layout_of body.paint) [] box
  pub labels_are : body.labels ≡ labels
  pub uses_are : body.uses ≡ uses
  pub scale_is : body.scale ≡ scale

-- The cells with their names: the tile, the row and the stack.
pub record AreMade (raw : RawTech) (layers : TileLayers) (scale : ℕ × ℕ) (n : ℕ) (cells : List (List ℕ × CellBody)) : Type 0 where
  pub tile : CellBody
  pub row : CellBody
  pub stack : CellBody
  pub are : cells ≡ (tile_name, tile) ∷ (row_name, row) ∷ (stack_name, stack) ∷ []
  pub tile_is : IsMade raw (tile_layout raw layers.poly.0 layers.diff.0) (tile_labels layers.poly.0 layers.diff.0) [] scale tile
  pub row_is : IsMade raw no_paint [] (array_use tile_name (codes "t") (row_grid n) ∷ []) scale row
  pub stack_is : IsMade raw no_paint [] (array_use row_name (codes "r") (stack_grid n) ∷ []) scale stack
