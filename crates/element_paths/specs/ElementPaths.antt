-- The elements that lead from a cell down to what stands at or below it.
use Rattle.std.specs.Prelude.{◌≡◌, ℕ, zero, suc, List, [], ◌∷◌, slice_get, Option, Some, None}
use Rattle.geo_core.specs.declared.transforms.Transform.{Transform}
use Rattle.library_trees.specs.LayoutModel.CellTrees.{Standing, standings, under}
use Rattle.library_trees.specs.CellLibrary.Views.{LibraryView}
use Rattle.library_trees.specs.TreeRecords.NamedTrees.{NamedTree, NamedElements, named_elements_in, layouts_of}
use Rattle.library_trees.specs.TreeRecords.NamedTrees.NamedElements.{no_more, element_then}
use Rattle.library_trees.specs.NamedCells.{named_tree_at}
use Rattle.element_paths.specs.declared.steps.Step.{Step}

-- an element of a cell: its name, where it stands, and its cell's tree
pub record NamedElement : Type 0 where
  pub id : List ℕ
  pub placed : Transform
  pub tree : NamedTree

-- the element at this position
abbrev pub element_at : NamedElements → ℕ → Option NamedElement
element_at no_more position = None
element_at (element_then id placed tree rest) zero = Some (record { id = id; placed = placed; tree = tree })
element_at (element_then id placed tree rest) (suc position) = element_at rest position

-- What stands with the number `element` at or below the cell is what stands with the number `rest` at or below the cell of its element at
-- this position, taken along with that element. Part 0 of a cell is its own layout, so the element is the part with the next number.
pub record LeadsDown (tree : NamedTree) (element position rest : ℕ) (below : NamedElement) : Type 0 where
  pub there : element_at (named_elements_in tree) position ≡ Some below
  pub lower : Standing
  pub lower_there : slice_get (standings (layouts_of below.tree)) rest ≡ Some lower
  pub upper : slice_get (standings (layouts_of tree)) element ≡ Some (under (suc position) below.placed lower)

-- The steps lead from the cell to what stands there with this number: each goes down to an element, by its name, and to its cell.
abbrev pub AreStepsTo : LibraryView → ℕ → ℕ → List Step → Type 0
AreStepsTo view cell element [] = element ≡ 0
AreStepsTo view cell element (step ∷ steps) =
    (placed : Transform)
    × LeadsDown (named_tree_at view cell) element step.position step.element
    (record { id = step.id; placed = placed; tree = named_tree_at view step.child.0 })
    × AreStepsTo view step.child.0 step.element steps
