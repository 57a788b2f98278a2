-- What a finder of members knows.
use Rattle.std.specs.Prelude.{◌≡◌, ◌<◌, ℕ, length}
use Rattle.ext_model.specs.Tables.{Table}
use Rattle.element_paths.specs.CellLibrary.Libraries.{LibraryParts, seen}
use Rattle.element_paths.specs.LibraryTrees.KeptRecords.{HaveKeptRecordsBelow}
use Rattle.element_paths.specs.LibraryTrees.NamedCells.{named_tree_at}
use Rattle.element_paths.specs.LibraryTrees.TreeNames.CleanTrees.{IsCleanTree}
use Rattle.tile_members.specs.declared.finding.MemberFinder.{MemberFinder}
use Rattle.tile_members.specs.steps.KnownMembers.{AreKnown}
use Rattle.tile_members.specs.steps.MemberNames.{kept_in, AreGroupsOf}
use Rattle.tile_members.specs.steps.OpenedCells.{AreOpened}

-- Members of the cell can be found: it is clean, and of each cell below it a record is kept.
pub record HasMembers (library : LibraryParts) (table : Table) (cell : ℕ) : Type 0 where
  pub there : cell < length library.contents
  pub clean : IsCleanTree library.tech (named_tree_at (seen library) cell)
  pub records : HaveKeptRecordsBelow (seen library) (kept_in table) cell

-- The finder is of this library, and what it knows is so.
pub record IsFinderOf (library : LibraryParts) (finder : MemberFinder) : Type 0 where
  pub paths : finder.names.paths ≡ library
  pub opened : AreOpened (seen library) finder.opened
  pub groups : AreGroupsOf (kept_in finder.names.records.now) finder.names.groups
  pub known : AreKnown (seen library) finder.cell.0 finder.opened finder.known
