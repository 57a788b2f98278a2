-- What most files of proofs name of what stands below, and of the definitions of this crate.
pub use Rattle.std.proofs.Common.{◌≡◌, ℕ, ◌<◌, ℤ, pos, ◌-ℤ◌, ◌*ℤ◌, List, [], ◌∷◌, ◌++◌, map, length, get_or, refl, sym, ◌∙◌, ap, subst, arith, take}
pub use Rattle.std.proofs.Common.{to_z, of_z}
pub use Rattle.std.specs.Prelude.{All}
pub use Rattle.std.proofs.lemmas.Int.{ints, to_z-of_z}
pub use Rattle.std.proofs.lemmas.List.{get_or-map, length-map}
pub use Rattle.std.specs.Int.{w64}
pub use Rattle.geo_core.specs.FiniteSets.Lists.{In, Lists}
pub use Rattle.geo_core.specs.FiniteSets.Total.{sum_on, one_if}
pub use Rattle.geo_core.proofs.FiniteSets.Searches.{All-from_In}
pub use Rattle.geo_core.specs.Areas.{IsNear}
pub use Rattle.key_sums.specs.declared.Amount.{Amount}
pub use Rattle.flood_nodes.specs.RectContacts.declared.contacts.Contact.{Contact}
pub use Rattle.layout_model.specs.declared.region_tiles.RegionTile.{RegionTile}
pub use Rattle.layout_model.specs.Layouts.{Layout}
pub use Rattle.layout_model.specs.Measures.{area_at, perimeter_at, IsArea, IsPerimeter}
pub use Rattle.layout_model.specs.Nodes.{AreMeasures}
pub use Rattle.tech_model.specs.declared.raw.ClassRec.{ClassRec}
pub use Rattle.layout_model.specs.RegionTiles.{AreLayoutTiles, AreMeasured}
pub use Rattle.layout_model.specs.Technologies.{class_of}
pub use Rattle.measures.specs.steps.Sizes.{area_amounts, perimeter_amounts, shared_amounts}
pub use Rattle.measures.specs.declared.columns.Column.{Column}
pub use Rattle.measures.specs.steps.Columns.{IsColumn, AreColumns, pairs_at}
