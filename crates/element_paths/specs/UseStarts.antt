-- Where the elements of the uses of a cell begin, and what a step down from the cell is.
use Rattle.std.specs.Prelude.{◌≡◌, ℕ, ◌+◌, ◌*◌, ◌<◌, ◌≤◌, suc, nat_eq, ℤ, List, [], ◌∷◌, length, take, Option, Some, slice_get, Vec}
use Rattle.std.specs.HashMap.{get}
use Rattle.std.specs.declared.alloc.Global.{Global}
use Rattle.geo_core.specs.declared.grids.Grid.{Grid}
use Rattle.geo_core.specs.declared.transforms.Transform.{Transform}
use Rattle.library_trees.specs.LayoutModel.CellTrees.{CellTree, standings}
use Rattle.cell_tree.specs.declared.use_tables.UseBody.{UseBody}
use Rattle.cell_tree.specs.Uses.{displacements}
use Rattle.library_trees.specs.CellLibrary.LayoutTrees.{tree_at}
use Rattle.library_trees.specs.CellLibrary.Libraries.{LibraryParts, seen}
use Rattle.library_trees.specs.CellLibrary.PartCounts.{element_count}
use Rattle.library_trees.specs.CellLibrary.Views.{LibraryView, view_at}
use Rattle.library_trees.specs.ElementNames.{use_elements}
use Rattle.library_trees.specs.NamedCells.{named_tree_at}
use Rattle.element_paths.specs.declared.starts.UseStart.{UseStart}
use Rattle.element_paths.specs.declared.descents.UseStarts.{UseStarts}
use Rattle.element_paths.specs.declared.steps.Step.{Step}
use Rattle.element_paths.specs.ElementPaths.{LeadsDown}

-- how many cells stand at and below the elements of these uses, for the trees of their children
abbrev pub standing_below : (ℕ → CellTree) → List (List ℕ × UseBody) → ℕ
standing_below trees [] = 0
standing_below trees (entry ∷ rest) =
    length (displacements entry.1.grid) * length (standings (trees entry.1.child.0)) + standing_below trees rest

-- Where the elements of the k-th of these uses begin: behind the cell itself and all that stands at and below the elements of the uses
-- before it.
abbrev pub start_of : (ℕ → CellTree) → List (List ℕ × UseBody) → ℕ → UseStart
start_of trees uses k = record { element = suc (standing_below trees (take k uses)); position = element_count (take k uses) }

-- where those of the use behind one begin
abbrev pub start_behind : (ℕ → CellTree) → UseStart → UseBody → UseStart
start_behind trees start used = record {
  element = start.element + length (displacements used.grid) * length (standings (trees used.child.0));
  position = start.position + length (displacements used.grid);
}

-- The list has where the elements of each of these uses begin.
pub record AreStarts (trees : ℕ → CellTree) (uses : List (List ℕ × UseBody)) (starts : List UseStart) : Type 0 where
  pub count : length starts ≡ length uses
  pub each : (k : ℕ) → k < length uses → slice_get starts k ≡ Some (start_of trees uses k)

-- The list has where the elements of each use of the cell begin.
abbrev pub AreStartsIn : LibraryView → ℕ → List UseStart → Type 0
AreStartsIn view cell starts = AreStarts (tree_at view) (view_at view cell).uses starts

-- What is kept under a cell is where the elements of its uses begin.
abbrev pub AreStartsOf : LibraryView → UseStarts → Type 0
AreStartsOf view known = (cell : ℕ) (starts : Vec UseStart Global) → get nat_eq known.entries cell ≡ Some starts → AreStartsIn view cell starts.items

-- The first use begins no later than this number.
pub record HasBegun (starts : List UseStart) (element : ℕ) : Type 0 where
  pub first : UseStart
  pub there : slice_get starts 0 ≡ Some first
  pub begun : first.element ≤ element

-- The k-th use is the last that begins no later than this number.
pub record IsLastBegun (starts : List UseStart) (element k : ℕ) : Type 0 where
  pub start : UseStart
  pub there : slice_get starts k ≡ Some start
  pub begun : start.element ≤ element
  pub later : (j : ℕ) (other : UseStart) → k < j → slice_get starts j ≡ Some other → element < other.element

-- The n-th element of a use with this id and this grid has the name.
pub record HasNameAt (id : List ℕ) (grid : Option Grid) (n : ℕ) (name : List ℕ) : Type 0 where
  pub displaced : ℤ × ℤ
  pub there : slice_get (use_elements id grid) n ≡ Some (record { name = name; step = displaced })

-- The step leads from the cell towards what stands there with this number: to something that stands at or below a cell of the library, and
-- there has a lower number.
pub record IsStepDown (library : LibraryParts) (cell element : ℕ) (step : Step) : Type 0 where
  pub placed : Transform
  pub leads : LeadsDown (named_tree_at (seen library) cell) element step.position step.element
      (record { id = step.id; placed = placed; tree = named_tree_at (seen library) step.child.0 })
  pub child : step.child.0 < length library.contents
  pub there : step.element < length (standings (tree_at (seen library) step.child.0))
  pub nearer : step.element < element
