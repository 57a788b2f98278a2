-- The cells that are made from a number n: a tile in which poly crosses diffusion, a row of n tiles side by side, and a stack of n rows.
use Rattle.std.specs.Prelude.{◌≡◌, ◌+◌, ◌-◌, ℕ, pos, List, [], ◌∷◌, ◌++◌, length, codes, Some, unwrap_or}
use Rattle.geo_core.specs.declared.grids.Grid.{Grid}
use Rattle.geo_core.specs.declared.squares.Rect.{Rect}
use Rattle.geo_core.specs.Images.{identity}
use Rattle.tech_model.specs.declared.raw.Label.{Label}
use Rattle.tech_model.specs.declared.raw.RawTech.{RawTech}
use Rattle.tech_model.specs.Types.{layer_named, layer_number}
use Rattle.cell_library.specs.LayoutModel.Layouts.{Layout}
use Rattle.cell_library.specs.CellPaint.Painting.{with_paint}
use Rattle.cell_library.specs.CellBodies.declared.bodies.CellBody.{CellBody}
use Rattle.cell_library.specs.Additions.{AreNextCells, with_all}
use Rattle.cell_library.specs.Libraries.{LibraryParts, seen}
use Rattle.cell_library.specs.Views.{CellView, LibraryView}
use Rattle.layout_gen.specs.declared.limits.TheConstants.{MADE_CELLS, TILE_SIDE}

-- ---- names

abbrev pub tile_name : List ℕ
tile_name = codes "gtile"

abbrev pub row_name : List ℕ
row_name = codes "grow"

abbrev pub stack_name : List ℕ
stack_name = codes "gen"

abbrev pub poly_name : List ℕ
poly_name = codes "poly"

abbrev pub diff_name : List ℕ
diff_name = codes "diff"

-- ---- the tile

-- poly goes through the tile from left to right
abbrev pub poly_area : Rect
poly_area = record { xlo = pos 0; ylo = pos 2; xhi = pos 6; yhi = pos 4 }

-- diffusion goes through it from below to above
abbrev pub diff_area : Rect
diff_area = record { xlo = pos 2; ylo = pos 0; xhi = pos 4; yhi = pos 6 }

-- no paint
abbrev pub no_paint : Layout
no_paint place = 0

-- What painting first poly and then diffusion makes of no paint. Where they cross, the technology says what stands.
abbrev pub tile_layout : RawTech → ℕ → ℕ → Layout
tile_layout raw poly diff = with_paint raw diff diff_area (with_paint raw poly poly_area no_paint)

-- the label `w` of the poly, on the left edge of the tile, with its text to the west
abbrev pub poly_label : ℕ → Label
poly_label poly =
    record { layer = Some (layer_number poly); area = record { xlo = pos 0; ylo = pos 2; xhi = pos 0; yhi = pos 4 }; position = 7; text = codes "w" }

-- the label `b` of the diffusion, on the lower edge, with its text to the south
abbrev pub diff_label : ℕ → Label
diff_label diff =
    record { layer = Some (layer_number diff); area = record { xlo = pos 2; ylo = pos 0; xhi = pos 4; yhi = pos 0 }; position = 5; text = codes "b" }

abbrev pub tile_labels : ℕ → ℕ → List Label
tile_labels poly diff = poly_label poly ∷ diff_label diff ∷ []

abbrev pub tile_cell : RawTech → ℕ → ℕ → CellView
tile_cell raw poly diff = record { name = tile_name; own = tile_layout raw poly diff; labels = tile_labels poly diff; uses = [] }

-- ---- the row and the stack

-- a cell that has nothing but one use of the cell at a position, under this id, in this grid, by the transform that moves nothing
abbrev pub array_cell : List ℕ → List ℕ → ℕ → Grid → CellView
array_cell name id child grid =
    record { name = name; own = no_paint; labels = []; uses = (id, record { child = record { 0 = child }; placed = identity; grid = Some grid }) ∷ [] }

-- n elements side by side
abbrev pub row_grid : ℕ → Grid
row_grid n = record { xlo = pos 0; xhi = pos (n - 1); xsep = TILE_SIDE; ylo = pos 0; yhi = pos 0; ysep = pos 0 }

-- n elements one above the other
abbrev pub stack_grid : ℕ → Grid
stack_grid n = record { xlo = pos 0; xhi = pos 0; xsep = pos 0; ylo = pos 0; yhi = pos (n - 1); ysep = TILE_SIDE }

-- ---- the library

-- The tile, the row and the stack come last, in this order. The first cell of a library gives it the scale 1 1.
abbrev pub with_generated : LibraryView → ℕ → ℕ → ℕ → LibraryView
with_generated view poly diff n =
    let tile = length view.cells in
    let row = length view.cells + 1 in
    record {
      tech = view.tech;
      scale = Some (unwrap_or view.scale (1, 1));
      cells = view.cells
          ++ tile_cell view.tech poly diff
          ∷ array_cell row_name (codes "t") tile (row_grid n)
          ∷ array_cell stack_name (codes "r") row (stack_grid n)
          ∷ [];
    }

-- The library has the cells that are made from n, of the layers that are called `poly` and `diff`.
pub record IsGenerated (old : LibraryView) (n : ℕ) (new : LibraryView) : Type 0 where
  pub poly : ℕ
  pub diff : ℕ
  pub poly_is : layer_named old.tech poly_name ≡ Some poly
  pub diff_is : layer_named old.tech diff_name ≡ Some diff
  pub is : new ≡ with_generated old poly diff n

-- Three cells came, as one edit, whose number is the stamp of each, and no other stamp changed.
pub record CameAtOnce (old new : LibraryParts) : Type 0 where
  pub cells : List (List ℕ × CellBody)
  pub three : length cells ≡ MADE_CELLS
  pub next : AreNextCells old new cells
  pub after : seen new ≡ with_all (seen old) cells
