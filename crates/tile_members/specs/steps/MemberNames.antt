-- Names of members, by the elements that lead down to what has a node.
use Rattle.std.specs.Prelude.{◌≡◌, ℕ, nat_eq, List, Some, slice_get}
use Rattle.std.specs.HashMap.{get}
use Rattle.ext_model.specs.declared.arrays.ArrayExt.{ArrayExt}
use Rattle.ext_model.specs.declared.records.MergeRec.{MergeRec}
use Rattle.ext_model.specs.Plain.{plain}
use Rattle.ext_model.specs.Tables.{Table, ext_of}
use Rattle.layout_model.specs.Places.{Place}
use Rattle.layout_model.specs.CellTrees.{Standing, place_back, standings}
use Rattle.element_paths.specs.CellLibrary.LayoutTrees.{tree_at}
use Rattle.element_paths.specs.CellLibrary.Views.{LibraryView, view_at}
use Rattle.element_paths.specs.LibraryTrees.TreeRecords.FetRecords.{IsOfNode}
use Rattle.element_paths.specs.LibraryTrees.NamedCells.{named_tree_at}
use Rattle.tile_members.specs.GroupMeetings.Members.{IsMemberOfPart}
use Rattle.element_paths.specs.LibraryTrees.KeptRecords.{KeptRecords}
use Rattle.tile_members.specs.declared.group_tables.GroupTable.{GroupTable}

-- the records of a table, by the positions of their cells
abbrev pub kept_in : Table → KeptRecords
kept_in table position = ext_of table (record { 0 = position })

-- These are the merges of the record that is kept of the cell.
pub record AreMergesOf (kept : KeptRecords) (cell : ℕ) (merges : List MergeRec) : Type 0 where
  pub ext : ArrayExt
  pub is_kept : kept cell ≡ Some ext
  pub are : merges ≡ (plain ext).merges

-- What is kept under a cell are the groups of its record.
abbrev pub AreGroupsOf : KeptRecords → GroupTable → Type 0
AreGroupsOf kept table = (cell : ℕ) (merges : List MergeRec) → get nat_eq table.entries cell ≡ Some merges → AreMergesOf kept cell merges

-- Wherever what stands with this number at or below the cell has the node of this name, the part in which it stands has the member of that
-- name.
pub record LeadsToMember (view : LibraryView) (cell element : ℕ) (node member : List ℕ) : Type 0 where
  pub has : (standing : Standing) (place : Place) → slice_get (standings (tree_at view cell)) element ≡ Some standing
      → IsOfNode view.tech (view_at view standing.own.cell).own (view_at view standing.own.cell).labels node (place_back standing.placed place)
      → IsMemberOfPart view.tech (named_tree_at view cell) standing.part place member
