-- The boxes of the elements of a cell.
use Rattle.std.specs.Prelude.{◌≡◌, ◌≢◌, ◌⊎◌, ℕ, List, [], ◌∷◌}
use Rattle.geo_core.specs.declared.squares.Rect.{Rect}
use Rattle.geo_core.specs.Covering.{Covers}
use Rattle.cell_tree.specs.declared.sizes.Size.{Size}
use Rattle.cell_tree.specs.Sizes.{CellState, AreSizes, hulls_below, size_at}
use Rattle.cell_bodies.specs.LayoutModel.Places.{Place}
use Rattle.cell_library.specs.Limits.{AreStatesOf}
use Rattle.cell_library.specs.Views.{LibraryView, view_at}

-- These are the boxes of the cell's elements in order: the hull of the child where the element stands, and none where it has none.
pub record AreElementBoxes (view : LibraryView) (cell : ℕ) (boxes : List Rect) : Type 0 where
  pub states : List CellState
  pub are_states : AreStatesOf view.cells states
  pub sizes : List Size
  pub are_sizes : AreSizes states sizes
  pub are : boxes ≡ hulls_below (size_at sizes) (view_at view cell).uses

-- Each part in order is empty, or has the next of the boxes, which holds all of it. Boxes may be left over.
abbrev pub HoldParts : List Rect → List (Place → ℕ) → Type 0
HoldParts boxes [] = Unit {0}
HoldParts boxes (part ∷ parts) =
    (((place : Place) → part place ≡ 0) × HoldParts boxes parts)
    ⊎ ((box : Rect) × (rest : List Rect) × (boxes ≡ box ∷ rest) × ((place : Place) → part place ≢ 0 → Covers box place.square) × HoldParts rest parts)
