-- What most files of proofs name of what stands below, and of the definitions of this crate.
pub use Rattle.std.proofs.Common.{◌≡◌, ℕ, ◌+◌, Bool, true, false, cond, List, [], length, take, drop, refl, sym, ◌∙◌, ap, arith, ◌<◌, get_or, inl}
pub use Rattle.std.proofs.Common.{inr, subst, ◌≤◌, zero, suc, ◌∷◌, ◌++◌, map, reverse, sum_by, ◌*◌, ℤ, to_z, of_z, w64, rules, append_assoc, min}
pub use Rattle.std.specs.Prelude.{Some, None, slice_get, Option}
pub use Rattle.std.proofs.lemmas.List.{take_all, length-map, take_more, map-append, get_or_default}
pub use Rattle.std.proofs.lemmas.Option.{same_Some, slice_get_read, slice_get-map}
pub use Rattle.std.specs.Option.{option_or, option_map}
pub use Rattle.std.specs.List.{flat_map, range_with_len}
pub use Rattle.std.proofs.lemmas.List.Sums.{sum_by-cons}
pub use Rattle.std.proofs.lemmas.Int.{ints, to_z-of_z}
pub use Rattle.finite_sets.specs.Lists.{In, Distinct}
pub use Rattle.finite_sets.proofs.Places.{In-slice_get, slice_get-map_source, slice_get-map_there, slice_get-below}
pub use Rattle.finite_sets.proofs.Searches.{All-In, find-In, All-from_In}
pub use Rattle.ext_model.specs.declared.records.CellExt.{CellExt}
pub use Rattle.ext_model.specs.declared.arrays.ArrayExt.{ArrayExt}
pub use Rattle.ext_model.specs.LawfulArrays.{IsLawfulArrayExt}
pub use Rattle.ext_model.specs.Plain.{plain, plain_uses, plain_merge, plain_merges, element_use}
pub use Rattle.circuit_model.specs.declared.faults.FlatFault.{FlatFault}
pub use Rattle.circuit_model.specs.declared.faults.FlatFault.TheVariants.{TooMany, Cycle}
pub use Rattle.circuit_model.specs.declared.limits.CircuitLimit.TheVariants.{Depth, Elements, Merges}
pub use Rattle.circuit_model.specs.declared.limits.TheConstants.{LONGEST_CHAIN, MOST_FLAT_ELEMENTS, MOST_MERGES}
pub use Rattle.circuit_model.specs.Refusals.{walk_fault, greatest, merge_count, past}
pub use Rattle.flat_limits.specs.ElementTree.declared.graph.RecordGraph.{RecordGraph}
pub use Rattle.flat_limits.specs.ElementTree.Sizes.{value_at, chain_from, size_from, AreMeasuredIn, AreMeasured}
pub use Rattle.ext_model.specs.declared.records.UseRec.{UseRec}
pub use Rattle.ext_model.specs.declared.arrays.ArrayUse.{ArrayUse}
pub use Rattle.circuit_model.specs.Elements.{ext_of, AreRecords}
pub use Rattle.flat_limits.specs.ElementTree.Graphs.{LeadTo, children_of}
pub use Rattle.flat_limits.proofs.ElementTree.Rows.{LeadTo-long}
pub use Rattle.finite_sets.proofs.Members.{In-map_source}
pub use Rattle.flat_limits.proofs.ElementTree.RecordWalks.{at_use}
pub use Rattle.geo_core.specs.declared.grids.Grid.{Grid}
pub use Rattle.geo_core.specs.Elements.{elements_of}
pub use Rattle.plain_records.specs.Plains.{AreArrayRecords, plains}
pub use Rattle.plain_records.specs.Reached.{with_merges, AreCalled, AreExpanded, spreads, spread_graph, spread, IsExpandedAt}
pub use Rattle.plain_records.specs.Thin.{thin, thins, first_use}
pub use Rattle.plain_records.specs.steps.Rows.{capped, merges_in}
pub use Rattle.plain_records.specs.steps.Steps.{IsShortStep}
