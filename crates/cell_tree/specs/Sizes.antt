-- The sizes of cells: the hull, the number of elements and the depth of all that stands at and below each.
use Rattle.std.specs.Prelude.{◌≡◌, ℕ, suc, ◌+◌, ◌*◌, ◌<◌, ◌≤◌, max, List, [], ◌∷◌, ◌++◌, length, slice_get, slice_index_or, remove, Option, Some, None}
use Rattle.std.specs.Option.{option_to_list}
use Rattle.geo_core.specs.declared.squares.Rect.{Rect}
use Rattle.cell_tree.specs.declared.limits.TheConstants.{MOST_DEPTH, MOST_ELEMENTS_BELOW}
use Rattle.cell_tree.specs.declared.sizes.Dimension.{Dimension}
use Rattle.cell_tree.specs.declared.sizes.Dimension.TheVariants.{Depth, Elements, Hull}
use Rattle.cell_tree.specs.declared.sizes.Size.{Size}
use Rattle.cell_tree.specs.declared.use_tables.UseBody.{UseBody}
use Rattle.cell_tree.specs.Uses.{displacements, IsLawfulUse, with_use_at}
use Rattle.cell_tree.specs.Hulls.{element_hulls, round_both, round_all, SpansInRange}

-- A cell: its own box, the smallest rectangle that goes round its material and labels, and its uses with their ids in order of arrival.
pub record CellState : Type 0 where
  pub own : Option Rect
  pub uses : List (List ℕ × UseBody)

-- the size of a cell that isn't there
abbrev pub no_size : Size
no_size = record { hull = None; elements = 0; depth = 0 }

-- the size of the cell at a position
abbrev pub size_at : List Size → ℕ → Size
size_at sizes key = slice_index_or sizes key no_size

-- the hulls of all elements of these uses, for the sizes of cells
abbrev pub hulls_below : (ℕ → Size) → List (List ℕ × UseBody) → List Rect
hulls_below sizes [] = []
hulls_below sizes (entry ∷ rest) = element_hulls entry.1 (sizes entry.1.child.0).hull ++ hulls_below sizes rest

-- how many elements these uses have, with all that stand below them
abbrev pub elements_below : (ℕ → Size) → List (List ℕ × UseBody) → ℕ
elements_below sizes [] = 0
elements_below sizes (entry ∷ rest) =
    length (displacements entry.1.grid) * (sizes entry.1.child.0).elements + elements_below sizes rest

-- the greatest depth of the children of these uses, 0 where there are none
abbrev pub depth_below : (ℕ → Size) → List (List ℕ × UseBody) → ℕ
depth_below sizes [] = 0
depth_below sizes (entry ∷ rest) = max (sizes entry.1.child.0).depth (depth_below sizes rest)

-- The size of a cell, for the sizes of the cells that it uses: the smallest rectangle round its own box and the hulls of its elements;
-- the cell itself and the elements below it; and how many cells the longest chain of uses has that begins at it.
unfoldable pub size_of : (ℕ → Size) → CellState → Size
size_of sizes cell =
    record {
      hull = round_all (option_to_list cell.own ++ hulls_below sizes cell.uses);
      elements = suc (elements_below sizes cell.uses);
      depth = suc (depth_below sizes cell.uses);
    }

-- Each cell has the size that the sizes of its children give.
abbrev pub AreSizes : List CellState → List Size → Type 0
AreSizes cells sizes = (key : ℕ) (cell : CellState) → slice_get cells key ≡ Some cell → size_at sizes key ≡ size_of (size_at sizes) cell

-- The hull, if there is one, lies within the range of paint.
abbrev pub IsHullInRange : Option Rect → Type 0
IsHullInRange None = Unit {0}
IsHullInRange (Some hull) = SpansInRange hull

-- The size keeps within the limit of this dimension.
abbrev pub IsWithin : Dimension → Size → Type 0
IsWithin Depth size = size.depth ≤ MOST_DEPTH
IsWithin Elements size = size.elements ≤ MOST_ELEMENTS_BELOW
IsWithin Hull size = IsHullInRange size.hull

-- a size with one more use, whose child has this size, as far as this dimension goes
unfoldable pub added : Dimension → Size → UseBody → Size → Size
added Depth size used child = record size { depth = max size.depth (suc child.depth) }
added Elements size used child = record size { elements = size.elements + length (displacements used.grid) * child.elements }
added Hull size used child = record size { hull = round_both size.hull (round_all (element_hulls used child.hull)) }

-- the same in all dimensions
abbrev pub with_use : Size → UseBody → Size → Size
with_use size used child = added Hull (added Elements (added Depth size used child) used child) used child

-- a size with these uses, one after another
abbrev pub grown : Dimension → (ℕ → Size) → Size → List (List ℕ × UseBody) → Size
grown dimension sizes size [] = size
grown dimension sizes size (entry ∷ rest) = grown dimension sizes (added dimension size entry.1 (sizes entry.1.child.0)) rest

-- the size of a cell without uses
abbrev pub own_size : Option Rect → Size
own_size own = record { hull = own; elements = 1; depth = 1 }

-- a size whose value in this dimension is that of another
abbrev pub with_dimension : Dimension → Size → Size → Size
with_dimension Depth size from = record size { depth = from.depth }
with_dimension Elements size from = record size { elements = from.elements }
with_dimension Hull size from = record size { hull = from.hull }

-- Two sizes have one value in this dimension.
abbrev pub AreAlike : Dimension → Size → Size → Type 0
AreAlike Depth a b = a.depth ≡ b.depth
AreAlike Elements a b = a.elements ≡ b.elements
AreAlike Hull a b = a.hull ≡ b.hull

-- The children of these uses are cells of a list of this length, and the uses are lawful.
abbrev pub AreUsesBelow : ℕ → List (List ℕ × UseBody) → Type 0
AreUsesBelow count uses =
    (k : ℕ) (entry : List ℕ × UseBody) → slice_get uses k ≡ Some entry → IsLawfulUse entry.1 × (entry.1.child.0 < count)

-- The children of these uses keep within the limit of this dimension.
abbrev pub AreChildrenWithin : Dimension → (ℕ → Size) → List (List ℕ × UseBody) → Type 0
AreChildrenWithin dimension sizes uses =
    (k : ℕ) (entry : List ℕ × UseBody) → slice_get uses k ≡ Some entry → IsWithin dimension (sizes entry.1.child.0)

-- these uses, with another body at a place, or without the use there
abbrev pub with_or_without : List (List ℕ × UseBody) → ℕ → Option UseBody → List (List ℕ × UseBody)
with_or_without uses at None = remove uses at
with_or_without uses at (Some used) = with_use_at uses at used
