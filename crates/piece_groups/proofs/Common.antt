-- What most files of proofs name of what stands below, and of the definitions of this crate.
pub use Rattle.std.proofs.Common.{◌≡◌, ℕ, ℤ, Bool, false, List, [], ◌∷◌, inl, inr, refl, subst, ◌<◌, ◌+◌, true, cond, ◌++◌, map, filter, length}
pub use Rattle.std.proofs.Common.{get_or, sym, ◌∙◌, ap, ◌≢◌, ◌≤◌, ◌-◌, Option, Some, None, arith, ◌⊎◌, zero, suc, slice_get, slice_index, rules}
pub use Rattle.std.specs.Prelude.{pos, ◌==◌, All}
pub use Rattle.std.specs.List.{flat_map, range_with_len}
pub use Rattle.std.proofs.lemmas.Bool.{cond-true, cond-false, cases_eq, eq-eqb, eqb-true}
pub use Rattle.std.proofs.lemmas.List.{get_or_default, length-map}
pub use Rattle.std.proofs.lemmas.List.Elements.{All-get_or}
pub use Rattle.std.proofs.lemmas.Option.{same_Some, slice_get_within, slice_get-get_or, get_or_from_slice_get, slice_get-map}
pub use Rattle.std.specs.Option.{option_map}
pub use Rattle.std.specs.Cmp.Lexicographic.{slice_cmp}
pub use Rattle.std.specs.Ordering.{is_lt, ordering_then}
pub use Rattle.finite_sets.specs.Lists.{In}
pub use Rattle.finite_sets.proofs.Members.{In-map_source, In-map}
pub use Rattle.finite_sets.proofs.Searches.{All-from_In, drop_split}
pub use Rattle.geo_core.specs.declared.squares.Square.{Square}
pub use Rattle.tech_model.specs.declared.raw.RawTech.{RawTech}
pub use Rattle.tech_model.specs.Rules.{KeepsRules}
pub use Rattle.tech_model.specs.WellFormed.{IsWellFormed}
pub use Rattle.group_meetings.specs.LayoutModel.Places.{Place}
pub use Rattle.group_meetings.specs.LayoutModel.Technologies.{Class, class_of, rules_of}
pub use Rattle.meeting_sums.specs.Offences.Offences.{SetLayout}
pub use Rattle.group_meetings.specs.AdjustmentLaws.{AreMembersOf}
pub use Rattle.ext_model.specs.declared.records.MergeRec.{MergeRec}
pub use Rattle.ext_model.specs.declared.arrays.MergeRow.{MergeRow}
pub use Rattle.merge_rows.specs.AddedMerges.{AddsToRows}
pub use Rattle.merge_rows.proofs.AddedRows.{add_none, add_same, add_then}
pub use Rattle.meeting_sums.specs.TreeRecords.Merges.{Adjustment, merge_of, zero_adjustment}
pub use Rattle.finite_sets.proofs.Pairs.{Pairwise, Pairwise-from_AllPairs, AllPairs-from_Pairwise}
pub use Rattle.ext_model.specs.Rows.{AreRowsOf}
pub use Rattle.group_meetings.specs.CircuitModel.FullNames.{AreInNameOrder}
pub use Rattle.meeting_sums.specs.TreeRecords.FetRecords.{IsNameBefore}
pub use Rattle.group_meetings.specs.LayoutModel.declared.region_tiles.RegionTile.{RegionTile}
pub use Rattle.meeting_sums.specs.Offences.declared.plane_stacks.PlaneStack.{PlaneStack}
pub use Rattle.group_meetings.proofs.TreeNames.GroupNames.{group_name_along, one_group}
pub use Rattle.group_meetings.proofs.MemberMaterial.{named_is_material, member_is_material}
pub use Rattle.group_meetings.specs.LayoutModel.Layouts.{IsMaterial, Layout}
pub use Rattle.group_meetings.specs.Members.{tree_parts}
pub use Rattle.group_meetings.proofs.MemberSteps.{one_of_part}
pub use Rattle.group_meetings.proofs.PartMembers.{part_of_member, member_at_part, flat_is_of_parts}
pub use Rattle.finite_sets.proofs.Places.{In-slice_get, slice_get-In, slice_get-below}
pub use Rattle.piece_groups.specs.TreeRecords.NamedTrees.{NamedTree}
pub use Rattle.piece_groups.specs.TreeRecords.MemberGroups.{IsGroupName, IsMemberAt, IsMemberOf}
pub use Rattle.piece_groups.specs.TreeRecords.Merges.{AreAdjustments, MemberGroup}
pub use Rattle.piece_groups.specs.TreeRecords.PlaceWeights.{PlaceWeight, area_weight, perimeter_weight, capacitance_weight, IsAdjustment}
pub use Rattle.piece_groups.specs.MeetingLaws.PartLayouts.{Passes, excess}
pub use Rattle.piece_groups.specs.MeetingSums.Sums.{AreMeetingMeasures}
pub use Rattle.piece_groups.specs.Laws.{HasRecordsBelow, piece_marks}
pub use Rattle.piece_groups.specs.declared.members.Member.{Member}
pub use Rattle.piece_groups.specs.steps.Groups.{name_at, mark_at, names_behind, sum_at, groups_before, AddsMerges, names_with, all_groups}
pub use Rattle.piece_groups.specs.MarkedGroups.{adjustment_of, HasMark, IsGroupOfMark, AreMarkedGroups}
pub use Rattle.piece_groups.specs.steps.Members.{marks_of, names_of}
pub use Rattle.piece_groups.specs.steps.Links.{place_with, AreLinkedFrom}
pub use Rattle.piece_groups.specs.MeetingSums.declared.sums.MeetingSum.{MeetingSum}
pub use Rattle.piece_groups.specs.MemberLaws.{AreMarkedPieces, MarksTellGroups}
pub use Rattle.piece_groups.specs.PieceMembers.{LiesInPiece}
pub use Rattle.piece_groups.specs.TreeRecords.NamedTrees.NamedTree.{named_tree}
pub use Rattle.piece_groups.specs.TreeRecords.FlatLayouts.{flat_layout}
