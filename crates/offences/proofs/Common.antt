-- What most files of proofs name of what stands below, and of the definitions of this crate.
pub use Rattle.std.proofs.Common.{◌≡◌, inl, inr, ◌==◌, ℕ, suc, bit_or, Bool, true, false, cond, List, [], ◌∷◌, refl, sym, ap, subst, ◌∙◌, ◌≢◌, ◌⊎◌}
pub use Rattle.std.proofs.Common.{◌+◌, ◌<◌, ◌≤◌, length, map, filter, get_or, arith, ℤ, pos, ◌+ℤ◌, ◌<ℤ◌, ◌≤ℤ◌, ◌++◌, take, rules, Vec, Global}
pub use Rattle.std.specs.Prelude.{Option, Some, None, slice_get, AllPairs, All, ◌&&◌}
pub use Rattle.std.specs.List.{list_any, range_with_len}
pub use Rattle.std.specs.Option.{option_map}
pub use Rattle.std.specs.Int.Bits.{or_zero_l, or_zero_r}
pub use Rattle.std.proofs.lemmas.Bool.{eq-eqb, eqb-true, cases_Bool, both_ways, false_from_ne_true, ne_eqb, cases_eq, cases_lt, and_parts, and_from}
pub use Rattle.std.proofs.lemmas.List.{length-map, take_more, take_all, map-append, append-nil}
pub use Rattle.std.specs.Int.{bit_at}
pub use Rattle.std.proofs.lemmas.Int.{ints}
pub use Rattle.std.proofs.lemmas.Option.{slice_get_within, slice_get-get_or, slice_get-map}
pub use Rattle.std.proofs.lemmas.Result.{IfOk-weaker}
pub use Rattle.std.proofs.lemmas.List.Elements.{All-weaker}
pub use Rattle.geo_core.specs.FiniteSets.Lists.{In, Lists}
pub use Rattle.geo_core.specs.declared.squares.Square.{Square}
pub use Rattle.geo_core.specs.declared.squares.Rect.{Rect}
pub use Rattle.geo_core.specs.Covering.{Covers, IsProper, is_covered}
pub use Rattle.tech_model.specs.declared.raw.TypeId.{TypeId}
pub use Rattle.tech_model.specs.declared.raw.RawTech.{RawTech}
pub use Rattle.tech_model.specs.WellFormed.{IsWellFormed}
pub use Rattle.tech_model.specs.ChannelRoles.{is_channel}
pub use Rattle.layout_model.specs.Places.{Place}
pub use Rattle.geo_core.proofs.FiniteSets.Members.{In-get_or, In-index, In-filter, In-append_left, In-append_right, In-append_cases, In-map}
pub use Rattle.geo_core.proofs.FiniteSets.Members.{In-map_source, In-push_cases}
pub use Rattle.geo_core.proofs.FiniteSets.Pairs.{Pairwise-from_AllPairs, AllPairs-from_Pairwise, Pairwise-map}
pub use Rattle.tech_model.specs.Types.{type_number, joined}
pub use Rattle.geo_core.proofs.FiniteSets.Searches.{list_any-In, All-from_In, list_any-source, All-In}
pub use Rattle.geo_core.specs.Areas.{widened, IsNear, common_rect, AreDisjoint, corner_of}
pub use Rattle.geo_core.proofs.CoveringLaws.{Covers-is_covered, is_covered-Covers, covers_first, covers_second, covers_both}
pub use Rattle.layout_model.specs.LayerTypes.{Kinds}
pub use Rattle.rect_overlays.specs.declared.stacks.Stack.{Stack}
pub use Rattle.rect_overlays.specs.Stacks.{IsStack, AreStacks}
pub use Rattle.geo_core.specs.Strips.{IsInUnion, IsStrips}
pub use Rattle.rect_overlays.specs.RectContacts.declared.contacts.Contact.{Contact}
pub use Rattle.rect_overlays.specs.RectContacts.Contacts.{IsSharedEdge}
pub use Rattle.geo_core.proofs.CornerLaws.{corner_covers}
pub use Rattle.geo_core.proofs.StripSets.{strips_same}
pub use Rattle.offences.specs.declared.stacks.PartKind.{PartKind}
pub use Rattle.offences.specs.declared.stacks.TypedStack.{TypedStack}
pub use Rattle.offences.specs.Changes.{number_of}
pub use Rattle.offences.specs.Offences.{SetLayout, joined_at, flat_type, union_of, HasKind, ChangesRole, OffendsOn, HaveTypes}
pub use Rattle.offences.specs.steps.Pieces.{is_hidden, is_shared, is_lost, spoils, is_spoiled, sides_of, changed, CoverExactly, changed_pieces}
pub use Rattle.offences.specs.steps.Pieces.{spoiled_areas, AreFoundChanges, of_contacts, moved_rect}
pub use Rattle.offences.specs.Roles.{role_of}
pub use Rattle.offences.specs.TypedStacks.{kind_in, has_kind, on_plane, IsTypedStack, kind_of, AreByPart, StandsFor, StandForAll, StandForTiles}
pub use Rattle.offences.specs.TypedStacks.{AreTypedStacks, HasMembers, typed_stack_areas, typed_stack_at, no_typed_stack}
pub use Rattle.offences.specs.declared.part_sets.PartSum.{PartSum}
pub use Rattle.offences.specs.PartSets.{listed_set, AreInPartOrder, tile_at, no_tile, set_if, member_set, all_sets, HaveSetsOf}
pub use Rattle.offences.specs.declared.set_tiles.SetTile.{SetTile}
pub use Rattle.offences.specs.steps.LayerParts.{layer_tile, ArePartTiles}
pub use Rattle.offences.specs.SetTiles.{AreTilesOfParts, tile_part, tile_parts, set_layout}
