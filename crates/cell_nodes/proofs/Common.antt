-- What most files of proofs name of what stands below, and of the definitions of this crate.
pub use Rattle.std.proofs.Common.{◌≡◌, ℕ, ◌+◌, ◌<◌, ◌≤◌, ℤ, pos, ◌+ℤ◌, List, [], ◌∷◌, ◌++◌, length, get_or, map, take, ◌∙◌, ap, arith, Some, inl}
pub use Rattle.std.proofs.Common.{inr, sym, subst, refl, IsTrue, to_z, of_z}
pub use Rattle.std.proofs.lemmas.Int.{ints}
pub use Rattle.std.specs.Prelude.{slice_index, All}
pub use Rattle.std.proofs.lemmas.Bool.{cases_lt, cases_eq}
pub use Rattle.std.proofs.lemmas.List.{get_or-map, length-map}
pub use Rattle.std.proofs.lemmas.Option.{slice_get_within, slice_get-get_or, get_or_from_slice_get}
pub use Rattle.std.specs.Int.{w128}
pub use Rattle.tech_model.specs.declared.raw.ClassRec.{ClassRec}
pub use Rattle.layout_model.specs.Technologies.{capacitance, class_of}
pub use Rattle.tech_model.specs.FiniteSets.Lists.{In, Lists}
pub use Rattle.tech_model.specs.declared.raw.Label.{Label}
pub use Rattle.tech_model.specs.declared.raw.RawTech.{RawTech}
pub use Rattle.layout_model.specs.declared.region_tiles.RegionTile.{RegionTile}
pub use Rattle.layout_model.specs.Places.{Place, IsBefore}
pub use Rattle.layout_model.specs.Layouts.{Layout, IsMaterial}
pub use Rattle.layout_model.specs.RegionTiles.{LiesIn, IsInRegion, AreLayoutTiles, AreRegions}
pub use Rattle.measures.specs.FloodNodes.Renumbered.{with_region}
pub use Rattle.measures.specs.FloodNodes.SoundTiles.{IsSoundTile}
pub use Rattle.measures.specs.FloodNodes.TileShares.{no_tile, tile_at}
pub use Rattle.names.specs.declared.nodes.NamedNode.{NamedNode}
pub use Rattle.names.specs.NamedNodes.{AreOneNamedNode, least_of, AreNamedNodes}
pub use Rattle.tech_model.specs.Types.{connects, is_type}
pub use Rattle.tech_model.specs.WellFormed.{IsWellFormed}
pub use Rattle.tech_model.specs.declared.limits.TheConstants.{MOST_PLANES}
pub use Rattle.measures.specs.Bounds.{IsNearPlace}
pub use Rattle.ext_model.specs.GeoCore.Areas.{corner_of}
pub use Rattle.ext_model.proofs.GeoCore.CornerLaws.{corner_covers}
pub use Rattle.ext_model.specs.declared.records.NodeRec.{NodeRec}
pub use Rattle.measures.specs.declared.tables.MeasureRow.{MeasureRow}
pub use Rattle.cell_nodes.specs.steps.NodeNumbers.{AreNodeNumbers, numbers_at, AreNumbered}
pub use Rattle.cell_nodes.specs.steps.Records.{IsRecordOf, AreMade, AreRecordsOf, row_at}
