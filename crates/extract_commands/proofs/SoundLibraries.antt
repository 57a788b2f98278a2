-- What a lawful library with sound paint is seen as: its clean cells have one record and a clean tree, and what is below them is clean.
use Rattle.extract_commands.proofs.Common.{◌≡◌, ◌<◌, ℕ, List, length, ap, subst, arith, Rect, KeepsRules, IsWellFormed, children_in, IsLawfulView}
use Rattle.extract_commands.proofs.Common.{IsSoundView, IsLawfulLibrary, LibraryParts, seen, LibraryView, view_at, count_seen, named_tree_at}
use Rattle.extract_commands.proofs.Common.{NamedTree, own_body, IsCleanTree, IsCleanCell}
use Rattle.finite_sets.specs.Chain.{Chain}
use Rattle.use_orders.specs.Uses.{UsesCell}
use Rattle.ext_model.specs.declared.arrays.ArrayExt.{ArrayExt}
use Rattle.layout_gen.specs.CellLibrary.LayoutModel.FlatSets.{IsTyped}
use Rattle.layout_gen.specs.CellLibrary.LawfulViews.{HasSoundPaint}
use Rattle.layout_gen.specs.CellLibrary.LayoutTrees.{tree_at}
use Rattle.layout_gen.proofs.CellLibrary.LawfulViews.{held_sound}
use Rattle.layout_gen.proofs.CellLibrary.TreeTypes.{library_is_typed}
use Rattle.uniqueness.specs.LibraryTrees.CellRecords.{IsRecordOf}
use Rattle.uniqueness.proofs.LibraryTrees.CleanTrees.{clean_tree}
use Rattle.uniqueness.proofs.LibraryTrees.WholeTrees.{named_tree_unfolds}
use Rattle.uniqueness.proofs.OneRecord.{one_record}
use Rattle.workspace.specs.LibraryAnswers.HierMerge.UncleanCells.{IsUncleanBelow}
use Rattle.uniqueness.proofs.CleanBelow.{all_are_clean}
use Rattle.uniqueness.specs.UncleanCells.{CleanCellsHaveNoneBelow}

-- ---- what is said of a library

-- a clean cell has one record
abbrev HasOneRecord : LibraryView → Type 0
HasOneRecord view =
    (cell : ℕ) (ext other : ArrayExt) → IsCleanCell view cell → IsRecordOf view cell ext → IsRecordOf view cell other → ext ≡ other

-- its named tree is clean
abbrev HasCleanTrees : LibraryView → Type 0
HasCleanTrees view = (cell : ℕ) → IsCleanCell view cell → IsCleanTree view.tech (named_tree_at view cell)

-- and has the name of the cell
abbrev HasNamedTrees : LibraryView → Type 0
HasNamedTrees view = (cell : ℕ) → cell < length view.cells → (own_body (named_tree_at view cell)).name ≡ (view_at view cell).name

-- what stands below a clean cell is clean
abbrev IsCleanBelowClean : LibraryView → Type 0
IsCleanBelowClean view =
    (root cell : ℕ) → root < length view.cells → IsCleanCell view root → Chain (UsesCell (children_in view)) root cell → IsCleanCell view cell

-- so none is told that is not
abbrev HasNoneBelowClean : LibraryView → Type 0
HasNoneBelowClean view =
    (root cell : ℕ) (squares : List (ℕ × Rect)) → root < length view.cells → IsCleanCell view root → ¬ (IsUncleanBelow view root cell squares)

-- the technology is lawful
abbrev HasLawfulTech : LibraryView → Type 0
HasLawfulTech view = IsWellFormed view.tech × KeepsRules view.tech

module _ (library : LibraryParts) (lawful : IsLawfulLibrary library) where
  module _ (paint : HasSoundPaint (seen library)) where
    -- so types are those of the technology
    typed : (cell : ℕ) → IsTyped library.tech (tree_at (seen library) cell)
    typed = library_is_typed library lawful (held_sound library lawful paint)

    one_record_seen : HasOneRecord (seen library)
    one_record_seen cell ext other clean = one_record library lawful cell (typed cell) ext other clean

    clean_trees_seen : HasCleanTrees (seen library)
    clean_trees_seen cell clean = clean_tree library lawful cell (typed cell) clean

  named_trees_seen : HasNamedTrees (seen library)
  named_trees_seen cell there =
      ap (λ (tree : NamedTree). (own_body tree).name) (named_tree_unfolds library lawful cell (omega (arith, there, count_seen library)))

  clean_seen : IsCleanBelowClean (seen library)
  clean_seen root cell there clean way = all_are_clean library lawful root cell (omega (arith, there, count_seen library)) clean way

  none_seen : CleanCellsHaveNoneBelow → HasNoneBelowClean (seen library)
  none_seen none root cell squares there clean = none library root cell squares lawful (omega (arith, there, count_seen library)) clean

-- ---- what is said of what is seen of one

module _ (view : LibraryView) where
  -- a fact of what is seen of each lawful library
  of_lawful : (Has : LibraryView → Type 0) → ((library : LibraryParts) → IsLawfulLibrary library → Has (seen library))
      → IsLawfulView view → Has view
  of_lawful Has each (library, lawful, is) = subst Has is (each library lawful)

  -- and of each whose paint is sound
  of_sound : (Has : LibraryView → Type 0)
      → ((library : LibraryParts) → IsLawfulLibrary library → HasSoundPaint (seen library) → Has (seen library)) → IsSoundView view → Has view
  of_sound Has each sound =
      of_lawful (λ one. HasSoundPaint one → Has one) each sound.lawful sound.paint

  -- a clean cell has one record
  pub same_record : IsSoundView view → HasOneRecord view
  same_record = of_sound HasOneRecord one_record_seen

  -- and a clean tree
  pub clean_tree_seen : IsSoundView view → HasCleanTrees view
  clean_tree_seen = of_sound HasCleanTrees clean_trees_seen

  -- which has the name of the cell
  pub tree_named : IsLawfulView view → HasNamedTrees view
  tree_named = of_lawful HasNamedTrees named_trees_seen

  -- what is below it is clean
  pub clean_below_clean : IsLawfulView view → IsCleanBelowClean view
  clean_below_clean = of_lawful IsCleanBelowClean clean_seen

  -- so there is no cell that is not
  pub none_below_clean : CleanCellsHaveNoneBelow → IsLawfulView view → HasNoneBelowClean view
  none_below_clean none = of_lawful HasNoneBelowClean (λ library lawful. none_seen library lawful none)

  -- the technology is lawful
  pub lawful_tech : IsLawfulView view → HasLawfulTech view
  lawful_tech = of_lawful HasLawfulTech (λ library lawful. (lawful.well_formed, lawful.rules))
