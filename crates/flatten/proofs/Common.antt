-- What most files of proofs name of what stands below, and of the definitions of this crate.
pub use Rattle.std.proofs.Common.{◌≡◌, ◌≢◌, ℕ, ◌+◌, ◌<◌, ◌≤◌, ℤ, pos, ◌+ℤ◌, Bool, false, cond, eqb, List, [], ◌∷◌, ◌++◌, length, map, take, get_or}
pub use Rattle.std.proofs.Common.{sym, ◌∙◌, ap, subst, arith, eq-eqb, append_assoc, length-append, inl, inr, to_z, of_z, negsuc, true, refl, ◌⊎◌}
pub use Rattle.std.proofs.Common.{◌-ℤ◌, ◌≤ℤ◌, suc, zero, ◌-◌, rules, Vec, Global}
pub use Rattle.std.specs.Prelude.{All, Some, slice_get, slice_index, Option, None, IsSome, sum_by}
pub use Rattle.std.proofs.Math.ListN.{set, length-set}
pub use Rattle.std.proofs.lemmas.Bool.{cases_eq, cases_Bool, eqb-true, cases_lt}
pub use Rattle.std.proofs.lemmas.Int.{ints, to_z-of_z}
pub use Rattle.std.specs.Int.{w128, w32, w64}
pub use Rattle.std.specs.Int.RustNames.{FitsSigned, unsigned_abs}
pub use Rattle.std.proofs.lemmas.List.Elements.{All-take}
pub use Rattle.std.proofs.lemmas.List.{map_more, length-map, length-take-le, take_more, append-nil, get_or-take, take_all}
pub use Rattle.std.proofs.lemmas.Option.{slice_get_within, slice_get-get_or, same_Some, slice_get_read, slice_get-map, get_or_from_slice_get}
pub use Rattle.std.specs.Option.{option_or, option_map}
pub use Rattle.std.specs.List.{flat_map}
pub use Rattle.std.proofs.lemmas.Grind.{flat_map-append}
pub use Rattle.std.specs.declared.cmp.Ordering.TheVariants.{Less}
pub use Rattle.std.specs.Str.{bytes_eq}
pub use Rattle.std.proofs.lemmas.List.Sums.{sum_by-cons, sum_by_more_le}
pub use Rattle.std.proofs.lemmas.Slice.Eq.{bytes_eq-Decides}
pub use Rattle.std.proofs.lemmas.List.FromFn.{get_or-map-range_with_len, length-map-range_with_len}
pub use Rattle.std.specs.Cmp.{both_ways}
pub use Rattle.std.proofs.lemmas.Result.{IfErr-weaker, IfOk-weaker, err_from_is_err_and}
pub use Rattle.finite_sets.specs.Lists.{In}
pub use Rattle.finite_sets.specs.Total.{sum_on}
pub use Rattle.finite_sets.proofs.Members.{In-append_cases, In-map_source, In-map, In-push_cases, In-get_or}
pub use Rattle.finite_sets.proofs.Sums.{sum_on-push, sum_on-map, sum_on-same}
pub use Rattle.finite_sets.proofs.Searches.{All-In, All-from_In}
pub use Rattle.circuit_model.specs.declared.limits.TheConstants.{MOST_NODES, MOST_MERGES, LONGEST_CHAIN, MOST_FLAT_ELEMENTS}
pub use Rattle.ext_model.specs.Lawful.{IsMeasure, IsLawfulNode, IsLawfulFet}
pub use Rattle.ext_model.specs.declared.records.CellExt.{CellExt}
pub use Rattle.circuit_model.specs.declared.faults.FlatFault.{FlatFault}
pub use Rattle.circuit_model.specs.Elements.{AreRecords, ext_of, elements_of, Element}
pub use Rattle.circuit_model.specs.Refusals.{depth_of, past, flat_fault, IsFlatOf, IsFlatFaultOf, class_fault, node_count, merge_count}
pub use Rattle.name_classes.specs.FullNames.NameLists.{name_fault, IsFullNameList}
pub use Rattle.plain_records.specs.FlatLimits.Counts.{node_fault, merge_fault}
pub use Rattle.finite_sets.proofs.Places.{In-slice_get, slice_get-below, slice_get-push_cases}
pub use Rattle.ext_model.specs.declared.records.NodeRec.{NodeRec}
pub use Rattle.ext_model.specs.declared.records.MergeRec.{MergeRec}
pub use Rattle.ext_model.specs.RecordNames.{node_names, names_of}
pub use Rattle.circuit_model.specs.FullNames.{name_in, AreInNameOrder}
pub use Rattle.element_tree.specs.declared.tree.TreeElement.{TreeElement}
pub use Rattle.name_classes.specs.FullNames.declared.names.FullNames.{FullNames}
pub use Rattle.name_classes.specs.FullNames.Names.{AreNames, IsElement, IsSpotOf, elements_in, IsReached}
pub use Rattle.name_classes.specs.declared.classes.NameClasses.{NameClasses}
pub use Rattle.name_classes.specs.declared.classes.MergeEnd.{MergeEnd}
pub use Rattle.name_classes.specs.Classes.{HasEnds, AreClasses, AreLabels}
pub use Rattle.name_classes.proofs.TreeLaws.{tree_of_names}
pub use Rattle.ext_model.specs.declared.records.FetRec.{FetRec}
pub use Rattle.circuit_model.specs.FlatFets.{IsFlatFet, fets_of, node_name}
pub use Rattle.ext_model.specs.NameOrder.{name_cmp}
pub use Rattle.circuit_model.specs.FlatNodes.{measure_of, IsPlaced, has_name}
pub use Rattle.ext_model.proofs.NameOrders.{name_cmp_total}
pub use Rattle.element_tree.specs.declared.tree.ElementTree.{ElementTree}
pub use Rattle.ext_model.specs.declared.records.TermRec.{TermRec}
pub use Rattle.name_classes.specs.FullNames.declared.names.Spot.{Spot}
pub use Rattle.plain_records.proofs.FlatLimits.TreeLaws.{no_flat}
pub use Rattle.name_classes.specs.FullNames.declared.names.Spot.TheVariants.{Local}
pub use Rattle.geo_core.specs.declared.squares.Square.{Square}
pub use Rattle.flatten.specs.declared.sums.NodeSum.{NodeSum}
pub use Rattle.flatten.specs.steps.Amounts.{FitAmounts, AddsAmounts}
pub use Rattle.flatten.specs.steps.Sums.{Quantity, Addend, amount, counts_for, IsLawfulAmount, AreLawfulAmounts, HaveSums, AddAll, IsCounted}
pub use Rattle.flatten.specs.steps.Sums.{node_addend, node_addends, merge_addend, merge_addends, addends_in}
pub use Rattle.flatten.specs.steps.Sums.Quantity.{Capacitance, Area, Perimeter}
pub use Rattle.flatten.specs.steps.Spots.{element_at, cell_at, no_element, HasNames, AreSpotsIn, AreSpotsOf, AreNamedOf, AreFetSpots, AreFetSpotsOf}
pub use Rattle.flatten.specs.Sinks.{IsGiven, GivesFets, with_fets}
pub use Rattle.flatten.specs.declared.sinks.GivenCircuit.{GivenCircuit}
pub use Rattle.flatten.specs.steps.Labels.{label_of, group_of, AreNamed}
pub use Rattle.flatten.specs.declared.sides.Side.{Side}
pub use Rattle.flatten.specs.steps.Sides.{length_at, AreByNode, AreAscending, AreJoined, side_of, name_of_node, named_side, AreFlatTerminals}
pub use Rattle.flatten.specs.steps.Named.{HasText, HasAlias, ArePlaced}
pub use Rattle.flatten.specs.declared.spots.CellSpots.{CellSpots}
pub use Rattle.flatten.specs.declared.spots.FetSpots.{FetSpots}
