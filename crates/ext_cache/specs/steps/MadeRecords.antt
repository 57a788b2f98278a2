-- The record of a cell, made of that of its own paint, its uses and its merges.
use Rattle.std.specs.Prelude.{◌≡◌, ℕ}
use Rattle.tree_merges.specs.CellLibrary.Views.{LibraryView}
use Rattle.tree_merges.specs.ElementPaths.LibraryTrees.CellRecords.{library_uses}
use Rattle.cell_records.specs.declared.records.CellRecord.{CellRecord}
use Rattle.tree_merges.specs.declared.relating.Related.{Related}
use Rattle.ext_cache.specs.declared.extraction.MadeRecord.{MadeRecord}

-- the record has the cell's uses and these merges, and all else of the record of its own paint
pub record IsMadeOf (library : LibraryView) (cell : ℕ) (own : CellRecord) (related : Related) (made : MadeRecord) : Type 0 where
  pub ext : made.ext
      ≡ record {
        cell = own.ext.cell;
        tech = own.ext.tech;
        classes = own.ext.classes;
        uses = library_uses library cell;
        nodes = own.ext.nodes;
        fets = own.ext.fets;
        merges = related.merges;
      }
  pub unattached : made.unattached ≡ own.unattached
