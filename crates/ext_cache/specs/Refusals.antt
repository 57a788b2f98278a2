-- Why an extraction is refused.
use Rattle.std.specs.Prelude.{◌≡◌, ℕ, List}
use Rattle.tree_merges.specs.CellLibrary.Views.{LibraryView}
use Rattle.tree_merges.specs.HierMerge.UncleanCells.{AreOffendingOf, IsCleanCell, IsFirstUnclean, IsUncleanBelow}
use Rattle.ext_cache.specs.declared.faults.ExtractFault.{ExtractFault}
use Rattle.ext_cache.specs.declared.faults.ExtractFault.TheVariants.{Memory, Unclean}

-- Want of memory is free. Otherwise the cell is the first at or below the root that is not clean, with the squares of it that offend.
abbrev pub IsUncleanFault : LibraryView → ℕ → ExtractFault → Type 0
IsUncleanFault library root Memory = Unit {0}
IsUncleanFault library root (Unclean found) = IsUncleanBelow library root found.cell.0 found.squares

-- the same of the cells of an order
abbrev pub IsUncleanIn : LibraryView → List ℕ → ExtractFault → Type 0
IsUncleanIn library order Memory = Unit {0}
IsUncleanIn library order (Unclean found) = IsFirstUnclean library order found.cell.0 × AreOffendingOf library found.cell.0 found.squares

-- the same of one cell
abbrev pub IsUncleanCell : LibraryView → ℕ → ExtractFault → Type 0
IsUncleanCell library cell Memory = Unit {0}
IsUncleanCell library cell (Unclean found) =
    (found.cell.0 ≡ cell) × (IsCleanCell library cell → ⊥) × AreOffendingOf library cell found.squares
