-- Where the parts of a cell interact, and how much work it is to look there.
use Rattle.std.specs.Prelude.{◌≡◌, ℕ, ◌+◌, List, [], ◌∷◌, ◌++◌, length, Option, MatchOption}
use Rattle.std.specs.Option.{option_to_list}
use Rattle.finite_sets.specs.Lists.{Lists}
use Rattle.geo_core.specs.declared.squares.Square.{Square}
use Rattle.geo_core.specs.declared.squares.Rect.{Rect}
use Rattle.geo_core.specs.Strips.{IsStrips}
use Rattle.cell_library.specs.LayoutModel.Places.{Place}
use Rattle.cell_library.specs.LayoutModel.Layouts.{Layout}
use Rattle.cell_library.specs.CellPaint.Paints.{IsPaintBox}
use Rattle.cell_library.specs.LayoutModel.CellTrees.{CellTree}
use Rattle.interact.specs.NearBoxes.{IsShared}
use Rattle.cell_library.specs.declared.part_tiles.PartTile.{PartTile}
use Rattle.cell_library.specs.ElementBoxes.{AreElementBoxes}
use Rattle.cell_library.specs.LayoutTrees.{tree_at}
use Rattle.cell_library.specs.PartTiles.{IsPartTileIn}
use Rattle.cell_library.specs.Views.{LibraryView, view_at}

-- It is the box of the layout's material, or there is none.
abbrev pub PaintBoxIs : Layout → Option Rect → Type 0
PaintBoxIs layout box = MatchOption box ((place : Place) → layout place ≡ 0) (IsPaintBox layout)

-- These are the boxes of the cell's parts that have one: of its own paint, and of its elements.
pub record ArePartBoxes (view : LibraryView) (cell : ℕ) (boxes : List Rect) : Type 0 where
  pub own : Option Rect
  pub is_own : PaintBoxIs (view_at view cell).own own
  pub elements : List Rect
  pub are_elements : AreElementBoxes view cell elements
  pub are : boxes ≡ option_to_list own ++ elements

-- The square lies in the boxes of two different parts, each grown by one on every side.
pub record IsInteraction (view : LibraryView) (cell : ℕ) (square : Square) : Type 0 where
  pub boxes : List Rect
  pub are_boxes : ArePartBoxes view cell boxes
  pub shared : IsShared boxes square

-- The number is the sum over the areas of the numbers of part tiles that meet each.
abbrev pub IsWorkOver : CellTree → List Rect → ℕ → Type 0
IsWorkOver tree [] work = work ≡ 0
IsWorkOver tree (area ∷ areas) work =
    (tiles : List PartTile) × (rest : ℕ) × Lists (IsPartTileIn tree area) tiles × IsWorkOver tree areas rest × (work ≡ length tiles + rest)

-- The work to look where the parts of a cell interact: the sum, over the strips of that set, of the part tiles that meet each.
pub record IsWork (view : LibraryView) (cell work : ℕ) : Type 0 where
  pub areas : List Rect
  pub are_areas : IsStrips (IsInteraction view cell) areas
  pub over : IsWorkOver (tree_at view cell) areas work
