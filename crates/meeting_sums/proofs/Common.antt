-- What most files of proofs name of what stands below, and of the definitions of this crate.
pub use Rattle.std.proofs.Common.{◌≡◌, ◌⊎◌, ℕ, ◌<◌, pos, ℤ, ◌+ℤ◌, ◌-ℤ◌, Bool, true, false, cond, eqb, List, [], ◌∷◌, ◌++◌, inl, inr, refl, sym, ◌∙◌}
pub use Rattle.std.proofs.Common.{ap, arith, suc, ◌^◌, ◌≤◌, negsuc, neg_ℤ, ◌*ℤ◌, ◌≤ℤ◌, subst, ◌+◌, take, length, get_or, map, ◌&&◌, Some, ◌*◌, rules}
pub use Rattle.std.proofs.Common.{to_z, of_z}
pub use Rattle.std.specs.Prelude.{All, slice_get, slice_index}
pub use Rattle.std.proofs.lemmas.Int.{ints}
pub use Rattle.std.proofs.Math.Nat.{mul-le-mul_left}
pub use Rattle.std.proofs.lemmas.Bool.{cases_lt}
pub use Rattle.std.proofs.lemmas.List.{get_or_default, get_or-take, get_or-drop, length-take, length-drop, get_or-map, length-map, take_more}
pub use Rattle.std.proofs.lemmas.List.{take_all}
pub use Rattle.std.proofs.lemmas.Option.{slice_get_within, get_or_from_slice_get, slice_get-get_or}
pub use Rattle.std.specs.List.{range_with_len}
pub use Rattle.std.proofs.lemmas.List.FromFn.{length-range_with_len, get_or-range_with_len}
pub use Rattle.std.proofs.lemmas.List.Elements.{All-map}
pub use Rattle.std.specs.Int.{w64, w128}
pub use Rattle.finite_sets.specs.Total.{sum_on, Total, one_if}
pub use Rattle.finite_sets.proofs.Sums.{sum_on-push, sum_on-same, sum_on-sub}
pub use Rattle.key_sums.specs.declared.Amount.{Amount}
pub use Rattle.offences.specs.declared.stacks.PartKind.{PartKind}
pub use Rattle.finite_sets.specs.Lists.{In, Lists, Distinct}
pub use Rattle.finite_sets.proofs.Members.{In-index, In-get_or}
pub use Rattle.rect_contacts.specs.declared.contacts.Contact.{Contact}
pub use Rattle.tech_model.specs.declared.raw.ClassRec.{ClassRec}
pub use Rattle.offences.specs.LayoutModel.Technologies.{class_of, Class, capacitance}
pub use Rattle.offences.specs.declared.plane_stacks.PlaneStack.{PlaneStack}
pub use Rattle.finite_sets.proofs.Totals.{Total-add, Total-at, Total-from_list, Total-iff, Total-same}
pub use Rattle.tech_model.specs.declared.raw.RawTech.{RawTech}
pub use Rattle.offences.specs.LayoutModel.Places.{Place}
pub use Rattle.meeting_laws.specs.FloodNodes.TileShares.{IsTileContact, IsInTiles, no_tile, tile_at}
pub use Rattle.offences.specs.Offences.{SetLayout}
pub use Rattle.offences.specs.PlaneStacks.{ArePlaneStacks}
pub use Rattle.meeting_laws.specs.TreeRecords.PlaceWeights.{area_weight, perimeter_weight}
pub use Rattle.meeting_laws.specs.PartLayouts.{part_layout, parts_layout, excess}
pub use Rattle.offences.specs.TypedStacks.{AreByPart, kind_in}
pub use Rattle.meeting_laws.proofs.FloodNodes.ShareLaws.{one_plane, Lists-indices_of}
pub use Rattle.geo_core.specs.declared.squares.Rect.{Rect}
pub use Rattle.geo_core.specs.Covering.{Covers, IsProper}
pub use Rattle.rect_contacts.specs.Squares.{area_of, perimeter_of}
pub use Rattle.offences.specs.LayoutModel.declared.region_tiles.RegionTile.{RegionTile}
pub use Rattle.meeting_laws.proofs.FloodNodes.StackLaws.{same_from_test}
pub use Rattle.geo_core.specs.Areas.{IsNear}
pub use Rattle.meeting_laws.specs.FloodNodes.Stacking.{AreSpread}
pub use Rattle.offences.specs.LayoutModel.RegionTiles.{LiesIn, LieApart, AreLayoutTiles}
pub use Rattle.meeting_sums.specs.steps.Counts.{for_group, for_both, AddAmounts, IsColumn, AreColumns, area_beyond, perimeter_beyond, pairs_at}
pub use Rattle.meeting_sums.specs.steps.Counts.{flat_kind, beyond, no_piece, stack_at, contact_counted, shared_beyond, beyond_both, IsSmallSum}
pub use Rattle.meeting_sums.specs.declared.columns.Column.{Column}
pub use Rattle.meeting_sums.specs.declared.sums.MeetingSum.{MeetingSum}
pub use Rattle.meeting_sums.specs.StackTiles.{tiles_of, IsInGroup, tile_of}
