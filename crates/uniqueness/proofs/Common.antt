-- What most files of proofs name of what stands below, and of the definitions of this crate.
pub use Rattle.std.proofs.Common.{◌≡◌, ℕ, List, [], ◌∷◌, inl, inr, refl, sym, ap, ◌∙◌, length, Ok, Err, subst, arith, ◌<◌, ◌≤◌, ℤ, ◌⊎◌, map, zero}
pub use Rattle.std.proofs.Common.{suc, ◌++◌, Bool, true, false, pos, get_or}
pub use Rattle.std.specs.Prelude.{Option, Some, None, Result, slice_index_or, MatchOption, slice_get}
pub use Rattle.std.specs.Str.{bytes_eq}
pub use Rattle.std.proofs.lemmas.Bool.{cases_Bool, cases_lt, cases_order}
pub use Rattle.std.proofs.lemmas.Slice.Eq.{bytes_eq-Decides}
pub use Rattle.std.proofs.lemmas.List.{get_or_default, get_or_past, length-map, same_lists}
pub use Rattle.std.proofs.Math.Path.{fun_ext}
pub use Rattle.std.specs.Option.{option_or}
pub use Rattle.std.specs.List.{flat_map}
pub use Rattle.std.proofs.lemmas.List.Elements.{All-head, All-tail}
pub use Rattle.switch_net.specs.Names.{HasName, NameOneNodeEach, NameNodesBelow}
pub use Rattle.vector_runs.specs.VectorFiles.LineForms.{node_named}
pub use Rattle.vector_runs.proofs.RailStates.{name_stands}
pub use Rattle.text_form.specs.declared.reading.At.{At}
pub use Rattle.session_model.specs.declared.report.ReportLine.{ReportLine}
pub use Rattle.ext_model.specs.declared.circuits.Circuit.{Circuit}
pub use Rattle.switch_net.specs.Network.{Network, IsSound}
pub use Rattle.switch_net.specs.SimRecords.{SimRecords, IsNetworkOf}
pub use Rattle.network_commands.specs.SimNetworks.SimNetworks.{records_of}
pub use Rattle.network_commands.specs.StackRuns.declared.outcomes.Outcome.{Outcome}
pub use Rattle.vector_runs.specs.VectorFiles.declared.faults.VecFault.{VecFault}
pub use Rattle.vector_runs.specs.VectorFiles.VectorFiles.{vectors_in}
pub use Rattle.finite_sets.specs.Least.{IsLeast}
pub use Rattle.finite_sets.specs.Lists.{In, Distinct}
pub use Rattle.finite_sets.proofs.Leasts.{IsLeast-unique}
pub use Rattle.outside_io.specs.Files.{Files}
pub use Rattle.session_model.specs.FileTrees.{FileIsRefused, Reading, ReadingIsOne, All, Stopped, fetched_by}
pub use Rattle.ext_model.specs.declared.arrays.ArrayExt.{ArrayExt}
pub use Rattle.circuit_commands.specs.ExtLoading.declared.faults.ExtLoadFault.{ExtLoadFault}
pub use Rattle.circuit_commands.specs.ExtLoading.Readings.{circuit_files}
pub use Rattle.finite_sets.specs.Chain.Chain.{stay, go}
pub use Rattle.finite_sets.proofs.Chains.{Chain-one}
pub use Rattle.finite_sets.proofs.Members.{In-map_source, In-map, In-index}
pub use Rattle.geo_core.specs.declared.grids.Grid.{Grid}
pub use Rattle.geo_core.specs.declared.squares.Rect.{Rect}
pub use Rattle.tech_model.specs.declared.raw.RawTech.{RawTech}
pub use Rattle.cell_loading.specs.CellTree.declared.use_tables.UseBody.{UseBody}
pub use Rattle.edit_script.specs.CellLibrary.Additions.{children_in, AddAllIsRefused, with_all}
pub use Rattle.edit_script.specs.CellLibrary.Libraries.{IsLawfulLibrary, LibraryParts, seen}
pub use Rattle.edit_script.specs.CellLibrary.Views.{view_at, CellView, LibraryView}
pub use Rattle.hier_merge.specs.UncleanCells.{IsCleanCell, IsUncleanBelow}
pub use Rattle.edit_script.specs.CellLibrary.declared.faults.LibFault.{LibFault}
pub use Rattle.edit_script.specs.declared.faults.EditFault.{EditFault}
pub use Rattle.circuit_commands.specs.CircuitModel.declared.faults.FlatFault.{FlatFault}
pub use Rattle.circuit_commands.specs.CircuitModel.Refusals.{IsFlatFaultOf, IsFlatOf, flat_fault}
pub use Rattle.circuit_commands.specs.LineAnswers.LineEffects.{FreeEffect, refused}
pub use Rattle.circuit_commands.specs.declared.circuits.Written.{Written}
pub use Rattle.ext_model.specs.declared.records.CellExt.{CellExt}
pub use Rattle.circuit_commands.specs.CircuitModel.Elements.{Element, elements_of, ext_of}
pub use Rattle.use_orders.specs.Uses.{AreCells}
pub use Rattle.tech_model.specs.declared.raw.Label.{Label}
pub use Rattle.cell_loading.specs.CellBodies.declared.bodies.CellBody.{CellBody}
pub use Rattle.edit_script.specs.CellLibrary.Refusals.{FirstOf}
pub use Rattle.ext_model.specs.declared.records.MergeRec.{MergeRec}
pub use Rattle.ext_model.specs.declared.records.UseRec.{UseRec}
pub use Rattle.finite_sets.proofs.InOrder.{same_by_order}
pub use Rattle.finite_sets.proofs.Pairs.{Pairwise-from_AllPairs}
pub use Rattle.ext_model.proofs.NameOrders.{name_cmp_total}
pub use Rattle.tree_circuits.proofs.FullNames.ListOrders.{not_before_itself}
pub use Rattle.tree_circuits.specs.OwnRecordLaws.CellNodes.LayoutModel.Layouts.{Layout}
pub use Rattle.tree_circuits.specs.OwnRecordLaws.CellNodes.LayoutModel.Places.{Place, IsBefore}
pub use Rattle.tree_circuits.proofs.OwnRecordLaws.CellNodes.LayoutModel.PlaceLaws.{IsBefore-irreflexive, IsBefore-trans, IsNoLater-antisym}
pub use Rattle.vector_runs.specs.VectorFiles.declared.files.Vectors.{Vectors}
pub use Rattle.tech_model.specs.WellFormed.{IsWellFormed}
pub use Rattle.tree_circuits.specs.TreeNames.CleanTrees.{IsCleanTree}
pub use Rattle.tree_circuits.specs.TreeNames.TreeRecords.LayoutModel.Technologies.{rules_of, Class}
pub use Rattle.tree_circuits.specs.TreeNames.TreeRecords.NamedTrees.{NamedTree}
pub use Rattle.tech_model.specs.Rules.{KeepsRules}
pub use Rattle.switch_net.specs.declared.switches.Level.{Level}
pub use Rattle.vector_runs.specs.declared.replies.VecReply.{VecReply}
pub use Rattle.tree_circuits.specs.TreeNames.TreeRecords.NamedTrees.NamedTree.{named_tree}
pub use Rattle.tree_circuits.specs.TreeNames.TreeRecords.NamedTrees.NamedElements.{element_then, no_more}
pub use Rattle.sim_text.specs.declared.files.SimFile.{SimFile}
pub use Rattle.sim_text.specs.declared.limits.SimLimit.{SimLimit}
pub use Rattle.sim_text.specs.declared.faults.SimFault.{SimFault}
pub use Rattle.uniqueness.specs.Networks.{NameAlike, IsNumbered}
pub use Rattle.uniqueness.specs.Refusals.{IsForOneFault}
pub use Rattle.uniqueness.specs.FlatCircuits.{AgreeBelow}
pub use Rattle.uniqueness.specs.Simulations.{VectorAnswersAreUnique}
