-- What most files of proofs name of what stands below, and of the definitions of this crate.
pub use Rattle.std.proofs.Common.{◌≡◌, ◌<◌, ◌∙◌, ℕ, List, length, Option, Some, refl, sym, ap, subst, inl, inr, [], ◌∷◌, None, map, rules, ◌++◌}
pub use Rattle.std.proofs.Common.{drop}
pub use Rattle.std.specs.Prelude.{IsSome, All, IfSome}
pub use Rattle.std.proofs.lemmas.List.{length-map}
pub use Rattle.std.specs.List.{flat_map}
pub use Rattle.circuit_model.specs.declared.faults.FlatFault.TheVariants.{TooMany as FlatTooMany}
pub use Rattle.circuit_model.specs.Refusals.{IsFlatFaultOf, IsFlatOf}
pub use Rattle.library_answers.specs.HierMerge.UncleanCells.{IsCleanCell}
pub use Rattle.ext_cache.specs.CellLibrary.Libraries.{IsLawfulLibrary, LibraryParts, seen, IsSame}
pub use Rattle.ext_cache.specs.CellLibrary.Views.{view_at, LibraryView}
pub use Rattle.circuit_laws.specs.TreeRecords.NamedTrees.{own_body}
pub use Rattle.circuit_laws.specs.TreeRecords.TreeRecords.{HasTreeRecords}
pub use Rattle.ext_cache.specs.LibraryTrees.NamedCells.{named_tree_at}
pub use Rattle.session_model.specs.declared.answer.Store.{Store}
pub use Rattle.finite_sets.specs.Lists.{In, Distinct}
pub use Rattle.use_orders.specs.Uses.{IsAtOrBelow}
pub use Rattle.ext_model.specs.declared.arrays.ArrayExt.{ArrayExt}
pub use Rattle.ext_model.specs.declared.tables.CellKey.{CellKey}
pub use Rattle.ext_cache.specs.CellLibrary.Additions.{children_in}
pub use Rattle.ext_cache.proofs.CellLibrary.ChildLaws.{below_there}
pub use Rattle.ext_cache.specs.declared.extraction.Extracted.{Extracted}
pub use Rattle.ext_cache.specs.Caches.{Agrees, Extracts, Records, is_dirty, IsRecordNow, record_in}
pub use Rattle.ext_cache.proofs.RecordLaws.{kept_clean}
pub use Rattle.ext_loading.specs.PlainRecords.Plains.{AreArrayRecords, plains}
pub use Rattle.library_answers.proofs.HierMerge.CleanOrders.{numbers}
pub use Rattle.workspace.specs.States.{State, Workspace}
pub use Rattle.workspace.specs.declared.extractions.Extraction.{Extraction}
pub use Rattle.workspace.specs.Extracting.{IsExtracted, HasLawfulRecord, IsFreshBelow, kept_store, told_lines}
pub use Rattle.workspace.specs.declared.cells.Edited.{Edited}
