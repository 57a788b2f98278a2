-- What most files of proofs name of what stands below, and of the definitions of this crate.
pub use Rattle.std.proofs.Common.{◌≡◌, ℕ, Bool, true, false, Option, Some, None, List, length, IsTrue, inl, inr, arith, refl, sym, subst, ◌∙◌, ap}
pub use Rattle.std.proofs.Common.{◌<◌, ◌+◌, [], ◌∷◌, ◌++◌, get_or, ◌≤◌, ◌≤ℤ◌, ◌≢◌, ◌⊎◌, map, Vec, Global, ◌<ℤ◌, cond, rules, take}
pub use Rattle.std.specs.Prelude.{IsPermutation, All, IfSome, AllPairs, slice_index, ◌↔◌}
pub use Rattle.std.proofs.lemmas.Bool.{cases_lt, and_parts, false≢true, cases_eq, eqb-true, cases_Bool}
pub use Rattle.std.proofs.lemmas.List.{get_or_past, get_or_append_left, get_or_push, get_or_default, length_push, get_or-map, length-map}
pub use Rattle.std.proofs.lemmas.List.{get_or_read}
pub use Rattle.std.proofs.lemmas.List.Sorted.{IsPermutation-sym, answers_always}
pub use Rattle.std.proofs.lemmas.Option.{none-some, same_Some}
pub use Rattle.std.specs.Option.{option_map}
pub use Rattle.std.proofs.lemmas.Int.{ints, clamps}
pub use Rattle.std.specs.Ordering.{nat_cmp, is_eq}
pub use Rattle.std.specs.declared.cmp.Ordering.{Ordering}
pub use Rattle.std.specs.declared.cmp.Ordering.TheVariants.{Less, Equal, Greater}
pub use Rattle.std.specs.Cmp.Lexicographic.{slice_cmp}
pub use Rattle.std.specs.FinMap.{nat_cmp-IsAntisymmetric, slice_cmp-IsAntisymmetric}
pub use Rattle.std.proofs.lemmas.Cmp.{tied_itself}
pub use Rattle.std.proofs.lemmas.List.Quantifiers.{all_pairs_push}
pub use Rattle.std.specs.BTreeMap.{is_at, get}
pub use Rattle.std.proofs.lemmas.Result.{IfOk-weaker}
pub use Rattle.geo_core.specs.FiniteSets.Lists.{In}
pub use Rattle.geo_core.proofs.FiniteSets.Members.{In-get_or, In-index, In-permutation, In-append_left, In-push_cases, In-push}
pub use Rattle.geo_core.specs.declared.squares.Square.{Square}
pub use Rattle.geo_core.specs.declared.squares.Rect.{Rect}
pub use Rattle.geo_core.specs.Areas.{common_rect, corner_of, has_square, LiesWithin}
pub use Rattle.geo_core.proofs.CoveringLaws.{IsProper-has_square, has_square-IsProper, corner_covered}
pub use Rattle.tech_model.specs.declared.raw.Label.{Label}
pub use Rattle.tech_model.specs.declared.raw.RawTech.{RawTech}
pub use Rattle.tech_model.specs.Types.{is_type, connects}
pub use Rattle.tech_model.specs.WellFormed.{IsWellFormed}
pub use Rattle.layout_model.specs.Places.{Place, IsNoLater, IsBefore}
pub use Rattle.layout_model.specs.Layouts.{Layout, IsMaterial}
pub use Rattle.layout_model.specs.RegionTiles.{AreLayoutTiles, IsInRegion, AreRegions, regions_of}
pub use Rattle.layout_model.specs.declared.region_tiles.RegionTile.{RegionTile}
pub use Rattle.ext_model.specs.NodeNames.{is_naming_text, is_global}
pub use Rattle.flood_nodes.specs.TileShares.{no_tile, tile_at}
pub use Rattle.geo_core.specs.FiniteSets.Chain.{EitherWay}
pub use Rattle.geo_core.proofs.FiniteSets.Chains.{Chain-one, Chain-append, Chain-same, Chain-weaker}
pub use Rattle.partition.specs.Divides.{IsJoined, IsPair, Divides}
pub use Rattle.ext_model.specs.NameOrder.{name_cmp}
pub use Rattle.ext_model.proofs.NameOrders.{name_cmp_total}
pub use Rattle.names.specs.declared.attaching.Attachment.{Attachment}
pub use Rattle.names.specs.Attachments.{touched, label_at, no_label, AreTextsOf, AreUnattached}
pub use Rattle.names.specs.steps.TakenLabels.{place_of, IsAttachment, found_at, stands_earlier}
pub use Rattle.names.specs.steps.CountedLabels.{region_found, text_at, IsNamed, AreCounted, IsCounted, ShareText, AreCountedOn}
pub use Rattle.names.specs.steps.FirstTiles.{AreFirstTiles, corner_place, class_of, IsFirstTile}
pub use Rattle.names.specs.declared.blocks.Block.{Block}
pub use Rattle.names.specs.steps.Groups.{AreGroupsBy, AreGroups, key_at, class_in, region_key, label_key, IsNodeOn, AreNodesOf, AreNodesOn}
pub use Rattle.names.specs.declared.nodes.NamedNode.{NamedNode}
pub use Rattle.names.specs.NamedNodes.{AreNamedNodes}
