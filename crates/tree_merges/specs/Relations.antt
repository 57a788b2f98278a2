-- The records that the merges of a cell are found with.
use Rattle.std.specs.Prelude.{ℕ, List}
use Rattle.ext_model.specs.declared.records.NodeRec.{NodeRec}
use Rattle.ext_model.specs.Tables.{Table, ext_of}
use Rattle.tile_members.specs.GroupMeetings.CellNodes.NodeRecords.{AreNodeRecords}
use Rattle.hier_merge.specs.CellLibrary.Views.{LibraryView, view_at}
use Rattle.tile_members.specs.LibraryTrees.KeptRecords.{KeptRecords}

-- the record that a table has of each cell, by the position of the cell
abbrev pub records_in : Table → KeptRecords
records_in table cell = ext_of table (record { 0 = cell })

-- The own paint and labels of the cell have node records: a caller shows it by having made them.
abbrev pub HasOwnNodes : LibraryView → ℕ → Type 0
HasOwnNodes view cell = (nodes : List NodeRec) × AreNodeRecords view.tech (view_at view cell).own (view_at view cell).labels nodes
