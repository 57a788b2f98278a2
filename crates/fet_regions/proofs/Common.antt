-- What most files of proofs name of what stands below, and of the definitions of this crate.
pub use Rattle.std.proofs.Common.{◌≡◌, ◌≢◌, ℕ, ◌<◌, ℤ, pos, Bool, true, cond, eqb, List, filter, length, inl, inr, refl, sym, ◌∙◌, ap, subst, arith}
pub use Rattle.std.proofs.Common.{false, not, ◌&&◌, ◌+◌, ◌-ℤ◌, [], ◌∷◌, ◌++◌, take, get_or, map, IsTrue, ◌⊎◌, ◌+ℤ◌, ◌*ℤ◌, ◌||◌, ◌≤◌, Vec, Global}
pub use Rattle.std.proofs.Common.{rules, to_z, of_z}
pub use Rattle.std.specs.Prelude.{slice_get, slice_index, All, Option, AllPairs, Some, None, unwrap_or}
pub use Rattle.std.proofs.lemmas.Bool.{cases_lt, and_parts, false≢true, cases_Bool, cases_eq}
pub use Rattle.std.proofs.lemmas.Option.{slice_get_within, get_or_from_slice_get}
pub use Rattle.std.proofs.lemmas.List.{append-nil, take_more, get_or-map, length-map}
pub use Rattle.std.proofs.lemmas.Int.{ints, to_z-of_z}
pub use Rattle.std.specs.List.{list_any, range_with_len}
pub use Rattle.std.specs.declared.cmp.Ordering.{Ordering}
pub use Rattle.std.specs.declared.ops.Bound.TheVariants.{Included, Excluded}
pub use Rattle.std.specs.BTreeMap.{get}
pub use Rattle.std.proofs.lemmas.List.FromFn.{map-range_with_len_more}
pub use Rattle.std.specs.Int.{w64}
pub use Rattle.finite_sets.specs.Lists.{Lists, In}
pub use Rattle.finite_sets.proofs.Members.{In-map, In-map_source, In-filter, In-filter_source, In-filter_passes, In-get_or, In-index}
pub use Rattle.geo_core.specs.Areas.{corner_of}
pub use Rattle.partition.specs.Divides.{Divides, IsPair}
pub use Rattle.rect_contacts.specs.declared.contacts.Contact.{Contact}
pub use Rattle.tech_model.specs.declared.raw.RawTech.{RawTech}
pub use Rattle.tech_model.specs.Types.{plane_of}
pub use Rattle.layout_model.specs.Places.{Place}
pub use Rattle.layout_model.specs.Layouts.{Layout, IsMaterial}
pub use Rattle.layout_model.specs.LayerTypes.{HasTypesOf}
pub use Rattle.layout_model.specs.Transistors.{AreOneChannel, IsTerminalOf, AreTransistors}
pub use Rattle.layout_model.specs.RegionTiles.{LiesIn, AreLayoutTiles, IsInRegion}
pub use Rattle.layout_model.specs.declared.region_tiles.RegionTile.{RegionTile}
pub use Rattle.flood_nodes.specs.TileShares.{no_tile, tile_at, IsTileContact, indices_of, edges_by_contacts, open_by_contacts}
pub use Rattle.flood_nodes.proofs.ShareLaws.{one_plane, Lists-indices_of}
pub use Rattle.flood_nodes.proofs.StackLaws.{same_from_test}
pub use Rattle.finite_sets.specs.Total.{sum_on, Total, one_if}
pub use Rattle.rect_contacts.specs.Squares.{area_of, perimeter_of}
pub use Rattle.tech_model.specs.ChannelRoles.{is_terminal, is_channel}
pub use Rattle.layout_model.specs.EdgeCounts.{LeadsAcross, IsEdgeCount}
pub use Rattle.key_sums.specs.declared.Amount.{Amount}
pub use Rattle.geo_core.proofs.SquareLaws.{square_is}
pub use Rattle.tech_model.specs.declared.raw.TypeId.{TypeId}
pub use Rattle.tech_model.specs.Rules.{KeepsRules}
pub use Rattle.key_sums.proofs.SumLaws.{Bounded}
pub use Rattle.fet_regions.specs.steps.Channels.{are_alike, alike_pairs}
pub use Rattle.fet_regions.specs.steps.Lowest.{place_of, IsChannelTile, IsNoHigher, AreLowest, corner_at, channel_corners, AreCorners}
pub use Rattle.fet_regions.specs.Lengths.{parts_beside, parts_of, part_in, summed, is_part_of, key_cmp, AreTerminals}
pub use Rattle.fet_regions.specs.declared.lengths.Part.{Part}
pub use Rattle.fet_regions.specs.steps.Sizes.{area_amount, perimeter_amount, area_amounts, perimeter_amounts, shared_at, shared_amounts}
pub use Rattle.fet_regions.specs.steps.Roles.{channel_in, terminal_in}
pub use Rattle.fet_regions.specs.Transistors.{transistor_of, AreFoundAt, AreFets}
pub use Rattle.fet_regions.specs.declared.transistors.Fet.{Fet}
pub use Rattle.fet_regions.specs.declared.lowest.Corner.{Corner}
pub use Rattle.fet_regions.specs.declared.roles.TheConstants.{ROWS}
