-- Clean trees: what is asked of a cell with all that stands below it, and how deep it is.
use Rattle.std.specs.Prelude.{◌≡◌, ℕ, suc, max, List, [], ◌∷◌}
use Rattle.name_classes.specs.FiniteSets.Lists.{Distinct}
use Rattle.hierarchy_model.specs.TechModel.declared.raw.RawTech.{RawTech}
use Rattle.name_classes.specs.ExtModel.NodeNames.{slashes_in}
use Rattle.hierarchy_model.specs.LayoutModel.FlatSets.{IsTyped}
use Rattle.hierarchy_model.specs.CleanCells.{IsClean}
use Rattle.own_record_laws.specs.TreeRecords.NamedTrees.{NamedTree, NamedElements, layouts_of}
use Rattle.own_record_laws.specs.TreeRecords.NamedTrees.NamedTree.{named_tree}
use Rattle.own_record_laws.specs.TreeRecords.NamedTrees.NamedElements.{no_more, element_then}

-- the names of the elements of a cell
abbrev pub ids_in : NamedElements → List (List ℕ)
ids_in no_more = []
ids_in (element_then id placed tree rest) = id ∷ ids_in rest

-- The names of the elements of each cell at and below the cell have no slash, and differ.
abbrev mutual
  pub HasElementNames : NamedTree → Type 0
  HasElementNames (named_tree own elements) = Distinct (ids_in elements) × HaveElementNames elements

  pub HaveElementNames : NamedElements → Type 0
  HaveElementNames no_more = Unit {0}
  HaveElementNames (element_then id placed tree rest) = (slashes_in id ≡ 0) × HasElementNames tree × HaveElementNames rest

-- The layouts have types of the technology alone, the cell and all below it are clean, and the names of elements are in order.
pub record IsCleanTree (raw : RawTech) (tree : NamedTree) : Type 0 where
  pub typed : IsTyped raw (layouts_of tree)
  pub clean : IsClean raw (layouts_of tree)
  pub names : HasElementNames tree

-- how many cells the longest chain of elements has from a cell on, that cell among them
abbrev mutual
  pub depth_of : NamedTree → ℕ
  depth_of (named_tree own elements) = suc (depth_below elements)

  pub depth_below : NamedElements → ℕ
  depth_below no_more = 0
  depth_below (element_then id placed tree rest) = max (depth_of tree) (depth_below rest)
