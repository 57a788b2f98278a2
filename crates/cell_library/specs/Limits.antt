-- Which libraries keep the limits: how deep cells stand, how many elements they have, and how far their hulls reach.
use Rattle.std.specs.Prelude.{◌≡◌, ◌<◌, ℕ, List, [], ◌∷◌, length, Option}
use Rattle.geo_core.specs.declared.squares.Rect.{Rect}
use Rattle.cell_tree.specs.declared.sizes.Dimension.{Dimension}
use Rattle.cell_tree.specs.declared.sizes.Size.{Size}
use Rattle.cell_tree.specs.Sizes.{CellState, AreSizes, IsWithin, size_at}
use Rattle.cell_library.specs.OwnBoxes.{OwnBoxIs}
use Rattle.cell_library.specs.Views.{CellView, LibraryView}

-- each of the second list has the own box and the uses of the cell at its place
abbrev pub AreStatesOf : List CellView → List CellState → Type 0
AreStatesOf [] [] = Unit {0}
AreStatesOf [] (state ∷ states) = ⊥
AreStatesOf (cell ∷ cells) [] = ⊥
AreStatesOf (cell ∷ cells) (state ∷ states) = OwnBoxIs cell.own cell.labels state.own × (state.uses ≡ cell.uses) × AreStatesOf cells states

-- Some cell goes past the limit of this dimension: it stands too deep, has too many elements, or its hull leaves the range of paint.
pub record GoesPast (dimension : Dimension) (view : LibraryView) : Type 0 where
  pub states : List CellState
  pub are_states : AreStatesOf view.cells states
  pub sizes : List Size
  pub are_sizes : AreSizes states sizes
  pub cell : ℕ
  pub there : cell < length view.cells
  pub past : IsWithin dimension (size_at sizes cell) → ⊥

-- The cell has the hull: the smallest rectangle that holds its material, its labels and the hulls of its elements, where there are any.
pub record HullIs (view : LibraryView) (cell : ℕ) (hull : Option Rect) : Type 0 where
  pub states : List CellState
  pub are_states : AreStatesOf view.cells states
  pub sizes : List Size
  pub are_sizes : AreSizes states sizes
  pub is : hull ≡ (size_at sizes cell).hull
