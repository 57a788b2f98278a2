-- What most files of proofs name of what stands below, and of the definitions of this crate.
pub use Rattle.std.proofs.Common.{◌≡◌, ◌≤◌, ℕ, zero, suc, List, [], ◌∷◌, ◌++◌, inl, inr, refl, sym, subst, arith, ◌⊎◌, ℤ, pos, ◌+ℤ◌, Bool, cond, map}
pub use Rattle.std.proofs.Common.{◌∙◌, ap, ◌↔◌, length, true, ◌-ℤ◌, false, if◌then◌else◌, Option, None, eq-eqb, ◌==◌, eqb-true}
pub use Rattle.std.specs.Prelude.{IsTrue, Some, slice_get}
pub use Rattle.std.specs.List.{flat_map}
pub use Rattle.std.specs.Str.{bytes_eq}
pub use Rattle.std.proofs.lemmas.Bool.{cases_Bool}
pub use Rattle.std.proofs.lemmas.Int.{ints}
pub use Rattle.std.proofs.lemmas.List.{map-append, length-map, length-append}
pub use Rattle.std.proofs.lemmas.Slice.Eq.{bytes_eq-Decides}
pub use Rattle.std.proofs.lemmas.Simd.{map-map}
pub use Rattle.std.specs.Option.{option_or}
pub use Rattle.finite_sets.specs.Lists.{In, Distinct}
pub use Rattle.finite_sets.proofs.Members.{In-append_cases, In-append_left, In-append_right, In-map_source, In-map}
pub use Rattle.finite_sets.proofs.Pairs.{Pairwise, Pairwise-from_AllPairs}
pub use Rattle.finite_sets.specs.OneForOne.{AreOneForOne}
pub use Rattle.tree_names.specs.TechModel.declared.raw.RawTech.{RawTech}
pub use Rattle.tree_names.specs.TechModel.ChannelRoles.{is_channel, is_terminal}
pub use Rattle.tree_names.specs.TechModel.WellFormed.{IsWellFormed}
pub use Rattle.tree_names.specs.ExtModel.declared.records.FetRec.{FetRec}
pub use Rattle.tree_names.specs.ExtModel.declared.records.NodeRec.{NodeRec}
pub use Rattle.tree_names.specs.LayoutModel.Places.{Place, IsNoLater, AreNeighbours}
pub use Rattle.tree_names.specs.LayoutModel.Transistors.{AreOneChannel, IsTransistor, gate_length}
pub use Rattle.tree_names.specs.LayoutModel.CellTrees.{place_back, own_types}
pub use Rattle.tree_names.specs.CircuitModel.Elements.{Element, elements_of, ext_of, ids_of, placed}
pub use Rattle.tree_names.specs.CircuitModel.FlatFets.{AreFlatFets, fets_in, fets_of, node_name}
pub use Rattle.tree_names.specs.TreeRecords.FlatLayouts.{flat_layout, AreOneFlatNode, HasNodePath, IsOfFlatNode, IsFlatName}
pub use Rattle.tree_names.specs.TreeRecords.NamedTrees.{NamedTree, NamedStanding, named_standings, place_forth, NamedElements, OwnBody}
pub use Rattle.tree_names.specs.TreeRecords.NamedTrees.{named_standings_below, own_body, named_above, layouts_of}
pub use Rattle.tree_names.proofs.TreeRecords.MoveLaws.{above_from_back, back_from_above, neighbours_above, neighbours_back}
pub use Rattle.tree_names.specs.TreeRecords.TreeCircuits.{AreFlatFetRecords, IsFetBefore, IsFlatFetRecord, IsOwnedFet, OwnedFet}
pub use Rattle.finite_sets.specs.Total.{sum_on, Total}
pub use Rattle.finite_sets.proofs.Distincts.{Distinct-append}
pub use Rattle.finite_sets.proofs.Sums.{sum_on-append, sum_on-nothing, sum_on-map, sum_on-same}
pub use Rattle.finite_sets.proofs.Images.{In-flat_map, In-flat_map_source}
pub use Rattle.tree_names.specs.ExtModel.declared.records.MergeRec.{MergeRec}
pub use Rattle.tree_names.specs.LayoutModel.Layouts.{IsMaterial, Layout}
pub use Rattle.tree_names.specs.LayoutModel.Technologies.{rules_of, Class}
pub use Rattle.tree_names.specs.TreeRecords.MemberGroups.{AreOneGroup, IsGroupName, IsMemberAt, IsMemberBelow}
pub use Rattle.tree_names.proofs.GroupNames.{group_name_is, member_begins}
pub use Rattle.finite_sets.proofs.Totals.{Total-unique, Total-iff, Total-at}
pub use Rattle.tree_names.specs.ExtModel.NodeNames.{slashes_in}
pub use Rattle.tree_names.specs.ExtModel.Paths.{path_text, full_name}
pub use Rattle.tree_names.specs.ExtModel.declared.records.CellExt.{CellExt}
pub use Rattle.geo_core.specs.declared.transforms.Transform.{Transform}
pub use Rattle.tree_names.specs.TreeRecords.NamedTrees.NamedElements.{no_more, element_then}
pub use Rattle.tree_names.specs.TreeRecords.PlaceWeights.{PlaceWeight, IsGroupTotal}
pub use Rattle.tree_names.specs.CleanTrees.{ids_in, IsCleanTree, depth_of}
pub use Rattle.finite_sets.proofs.Chains.{Chain-append, Chain-keeps}
pub use Rattle.tree_names.specs.TechModel.Rules.{KeepsRules}
pub use Rattle.tree_names.specs.TreeRecords.FetRecords.{IsOfNode, AreFetRecords, IsNodeBefore, IsFetRecord, IsNoLaterName}
pub use Rattle.tree_names.specs.TreeRecords.NamedTrees.NamedTree.{named_tree}
pub use Rattle.finite_sets.specs.Chain.Chain.{stay, go}
pub use Rattle.finite_sets.proofs.Leasts.{IsLeast-iff}
pub use Rattle.tree_names.specs.LayoutModel.EdgeCounts.{IsEdgeCount, LeadsAcross}
pub use Rattle.tree_names.specs.TreeRecords.TreeRecords.{HasTreeRecords}
pub use Rattle.tree_names.proofs.CleanTrees.{AreCleanTrees, clean_below, clean_first, clean_rest}
pub use Rattle.tree_names.specs.CircuitModel.declared.limits.TheConstants.{LONGEST_CHAIN}
pub use Rattle.tree_names.specs.CircuitModel.FlatNodes.{has_name, IsFlatNode, measure_of, AreFlatNodes, is_among}
pub use Rattle.tree_names.specs.TreeElements.{IsElementFor}
pub use Rattle.tree_names.proofs.ElementLinks.{full_name-path}
pub use Rattle.tree_names.proofs.TreeElements.{elements_for}
pub use Rattle.geo_core.specs.declared.squares.Square.{Square}
pub use Rattle.geo_core.specs.Images.{image, identity, composed}
pub use Rattle.tree_names.specs.ExtModel.RecordNames.{names_of}
pub use Rattle.tree_names.specs.LayoutModel.Measures.{IsArea, IsPerimeter}
pub use Rattle.tree_names.specs.LayoutModel.Nodes.{AreMeasures}
pub use Rattle.tree_names.proofs.CircuitNodes.{name_flat_nodes}
pub use Rattle.tree_names.proofs.FullNames.ListOrders.{Distinct-names, pairwise_names}
pub use Rattle.finite_sets.proofs.Searches.{In-from_list_any, list_any-of_In, absent-from_list_any}
pub use Rattle.tree_names.proofs.FlatNames.{path_full}
pub use Rattle.tree_names.proofs.NodeNames.{flat_node_names, names_one_flat_node}
pub use Rattle.finite_sets.proofs.Places.{In-slice_get}
pub use Rattle.tree_names.specs.TreeRecords.Merges.{merge_of}
pub use Rattle.tree_names.specs.Names.NamedNodes.{AreOneNamedNode}
pub use Rattle.finite_sets.proofs.Firsts.{first_some-none}
pub use Rattle.tree_names.specs.CircuitModel.declared.faults.FlatFault.{FlatFault}
pub use Rattle.tree_names.specs.TechModel.declared.raw.Label.{Label}
pub use Rattle.tree_names.specs.Offences.Roles.{role_of}
pub use Rattle.tree_circuits.specs.Channels.{OwnsItsChannels, ChannelSet, IsChannelPerimeter, IsChannelSet, KeepsChannels}
pub use Rattle.tree_circuits.specs.TreeSums.{RecordedQuantity, IsOfGroups, AreOfGroups, AreGroupTotals, sum_passing, recorded_cap, recorded_area}
pub use Rattle.tree_circuits.specs.TreeSums.{recorded_perimeter}
pub use Rattle.tree_circuits.specs.SumLaws.{is_named}
pub use Rattle.tree_circuits.specs.Terminals.{GivesFlatNames, AreRenamed, HasTransistorAbove}
