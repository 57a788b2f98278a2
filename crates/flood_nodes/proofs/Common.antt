-- What most files of proofs name of what stands below, and of the definitions of this crate.
pub use Rattle.std.proofs.Common.{◌≡◌, ◌≢◌, ℕ, ◌<◌, ℤ, pos, ◌+ℤ◌, ◌*ℤ◌, Bool, true, false, cond, eqb, ◌&&◌, List, [], ◌∷◌, length, inl, inr, sym}
pub use Rattle.std.proofs.Common.{◌∙◌, ap, subst, arith, ◌+◌, ◌-◌, ◌≤◌, ◌++◌, map, get_or, Option, Some, None, IsTrue, refl, ◌⊎◌, ◌<ℤ◌, filter, take}
pub use Rattle.std.proofs.lemmas.Bool.{and_parts, cases_eq, cases_lt, false≢true}
pub use Rattle.std.proofs.lemmas.Int.{ints}
pub use Rattle.std.proofs.lemmas.Option.{slice_get_within, slice_get-get_or, get_or_from_slice_get, same_Some}
pub use Rattle.std.specs.Prelude.{slice_get, nat_lt, All, AllPairs, slice_index}
pub use Rattle.std.proofs.lemmas.Bool.Decides.{nat_tests}
pub use Rattle.std.proofs.lemmas.List.{length-map, get_or-map, length-take, length-drop, get_or-take, get_or-drop}
pub use Rattle.std.specs.List.{list_any}
pub use Rattle.geo_core.specs.FiniteSets.Lists.{In, Distinct, Lists}
pub use Rattle.geo_core.specs.FiniteSets.Total.{sum_on, Total, one_if}
pub use Rattle.geo_core.proofs.FiniteSets.Totals.{Total-iff, Total-at}
pub use Rattle.rect_contacts.specs.declared.contacts.Contact.{Contact}
pub use Rattle.layout_model.specs.Places.{Place, AreNeighbours}
pub use Rattle.layout_model.specs.Layouts.{Layout, IsMaterial}
pub use Rattle.layout_model.proofs.Families.{InFamily, Total-family, Total-gated}
pub use Rattle.layout_model.specs.declared.region_tiles.RegionTile.{RegionTile}
pub use Rattle.layout_model.specs.EdgeCounts.{LeadsAcross}
pub use Rattle.layout_model.specs.RegionTiles.{LiesIn, AreLayoutTiles, LieApart, AreRegions}
pub use Rattle.geo_core.specs.declared.squares.Rect.{Rect}
pub use Rattle.geo_core.specs.Areas.{IsNear, AreDisjoint}
pub use Rattle.geo_core.specs.Covering.{Covers, IsProper, is_covered}
pub use Rattle.geo_core.proofs.CoveringLaws.{Covers-is_covered, is_covered-Covers}
pub use Rattle.geo_core.proofs.FiniteSets.Members.{In-get_or, In-index, In-map_source}
pub use Rattle.tech_model.specs.declared.raw.RawTech.{RawTech}
pub use Rattle.tech_model.specs.declared.raw.TypeId.{TypeId}
pub use Rattle.tech_model.specs.WellFormed.{IsWellFormed}
pub use Rattle.tech_model.specs.Types.{is_type, plane_of}
pub use Rattle.layout_model.specs.LayerTypes.{seen_in}
pub use Rattle.geo_core.specs.declared.squares.Square.{Square}
pub use Rattle.rect_contacts.proofs.Shared.{shared_length-comm}
pub use Rattle.partition.specs.Divides.{Divides, IsPair}
pub use Rattle.geo_core.proofs.FiniteSets.Listings.{Lists-iff, Lists-map}
pub use Rattle.rect_contacts.specs.Contacts.{shared_length, IsSharedEdge}
pub use Rattle.rect_contacts.specs.Rects.{no_rect, rect_at}
pub use Rattle.geo_core.specs.Neighbours.{AreEdgeNeighbours, right_of, above}
pub use Rattle.geo_core.proofs.FiniteSets.Sums.{sum_on-map}
pub use Rattle.geo_core.proofs.NeighbourLaws.{AreEdgeNeighbours-right_of, AreEdgeNeighbours-above}
pub use Rattle.geo_core.proofs.SquareLaws.{square_is}
pub use Rattle.flood_nodes.specs.TileShares.{tile_at, indices_of, shared_by, inner_edges, IsTileContact, no_tile}
pub use Rattle.flood_nodes.specs.Stacking.{AreTyped, AreSpread, reaches, IsCrossing, IsReaching, areas_at, connected, AddsMeeting, has_other_images}
pub use Rattle.flood_nodes.specs.steps.LinkedTiles.{AreLinkedTiles, JoinTiles, NumbersNodes}
pub use Rattle.flood_nodes.specs.Renumbered.{with_region, AreRenumbered}
pub use Rattle.flood_nodes.specs.steps.Runs.{areas_of, shifted}
