-- What most files of proofs name of what stands below, and of the definitions of this crate.
pub use Rattle.std.proofs.Common.{◌≡◌, ℕ, List, sym, subst, [], ◌∷◌, ◌++◌, ◌∙◌, length, arith, length-append, ◌<◌, ◌≤◌, map, Option, Some, None}
pub use Rattle.std.proofs.Common.{refl, ap, inl, inr, true, ◌+◌, ◌==◌, Bool, cond, get_or, take, ◌⊎◌, ◌*◌, false, vec_capacity}
pub use Rattle.std.proofs.lemmas.List.{get_or_append_left}
pub use Rattle.std.specs.Prelude.{IsSome, is_some, option_map, All}
pub use Rattle.std.specs.Cmp.{unsigned_tied}
pub use Rattle.std.proofs.lemmas.Bool.Decides.{eqb_tells, nat_tests}
pub use Rattle.std.proofs.lemmas.Cmp.{nat_cmp_total}
pub use Rattle.std.specs.Ordering.{nat_cmp}
pub use Rattle.finite_sets.specs.Chain.Chain.{stay, go}
pub use Rattle.use_orders.specs.Uses.{IsAtOrBelow, AreBehindChildren, UsesCell}
pub use Rattle.tree_merges.specs.CellTree.Cells.{IsAbove}
pub use Rattle.tree_merges.specs.CellLibrary.Additions.{children_in}
pub use Rattle.tree_merges.specs.CellLibrary.Libraries.{LibraryParts, IsLawfulLibrary, seen}
pub use Rattle.tree_merges.specs.CellLibrary.Views.{no_cell, view_at, CellView, LibraryView}
pub use Rattle.ext_model.specs.declared.tables.ExtEntry.{ExtEntry}
pub use Rattle.tree_merges.specs.CellTree.Trees.{stamp_at}
pub use Rattle.finite_sets.specs.Lists.{In, Distinct}
pub use Rattle.use_orders.specs.LibraryOrder.{IsLibraryOrder}
pub use Rattle.hierarchy_model.specs.CleanCells.{IsClean}
pub use Rattle.tree_merges.specs.CellLibrary.LayoutTrees.{tree_at}
pub use Rattle.finite_sets.proofs.Images.{map-same}
pub use Rattle.ext_model.specs.declared.arrays.ArrayExt.{ArrayExt}
pub use Rattle.ext_model.specs.declared.tables.CellKey.{CellKey}
pub use Rattle.tree_merges.specs.Names.Attachments.{AreUnattached}
pub use Rattle.tree_merges.specs.HierMerge.Interactions.{IsWork}
pub use Rattle.tree_merges.specs.HierMerge.UncleanCells.{IsCleanCell}
pub use Rattle.tree_merges.specs.ElementPaths.LibraryTrees.KeptRecords.{HaveKeptRecordsBelow, IsBelow}
pub use Rattle.tech_model.specs.declared.raw.RawTech.{RawTech}
pub use Rattle.cell_records.specs.TreeRecords.OwnRecords.{IsOwnRecord}
pub use Rattle.tree_merges.specs.CellTree.Uses.{HasChild}
pub use Rattle.ext_cache.specs.Caches.{Agrees, Records, entry_in, is_dirty, is_stale, stamp_in, MakesRecords, dirty_cells, with_record, record_in}
pub use Rattle.ext_cache.specs.Caches.{IsRecordNow, IsWorkOfAll}
pub use Rattle.ext_cache.specs.declared.extraction.Extracted.{Extracted}
pub use Rattle.ext_cache.specs.declared.lending.LentNote.{LentNote}
pub use Rattle.ext_cache.specs.Lending.{AreLent}
pub use Rattle.ext_cache.specs.steps.Undoing.{with_entry, IsLogOf, undo_of}
pub use Rattle.ext_cache.specs.declared.undo.Undo.{Undo}
pub use Rattle.ext_cache.specs.declared.extraction.MadeRecord.{MadeRecord}
