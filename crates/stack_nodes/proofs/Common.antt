-- What most files of proofs name of what stands below, and of the definitions of this crate.
pub use Rattle.std.proofs.Common.{◌≡◌, ◌∙◌, ℕ, ℤ, pos, neg_ℤ, List, [], ◌∷◌, inl, inr, refl, sym, ap, subst, arith, ◌<◌, ◌+◌, length, false, ◌≤◌}
pub use Rattle.std.proofs.Common.{true, Bool, ◌*◌, zero, suc, ◌≤ℤ◌, ◌*ℤ◌, get_or, ◌-◌, ◌<ℤ◌}
pub use Rattle.std.specs.Prelude.{Some, codes, Option, None, IsTrue}
pub use Rattle.std.proofs.lemmas.Int.{ints}
pub use Rattle.std.proofs.lemmas.Bool.{cases_Bool, true≢false}
pub use Rattle.std.proofs.lemmas.List.{length-map}
pub use Rattle.tech_model.specs.GeoCore.FiniteSets.Lists.{In, Distinct}
pub use Rattle.tech_model.specs.GeoCore.declared.squares.Square.{Square}
pub use Rattle.tech_model.specs.GeoCore.Images.{identity}
pub use Rattle.tech_model.specs.declared.raw.RawTech.{RawTech}
pub use Rattle.tech_model.proofs.GeoCore.FiniteSets.Members.{In-map, In-map_source}
pub use Rattle.library_trees.specs.CellLibrary.LayoutModel.CellTrees.{place_back}
pub use Rattle.library_trees.specs.CellLibrary.LayoutModel.Places.{Place}
pub use Rattle.library_trees.specs.CellLibrary.LayoutTrees.{element_transform}
pub use Rattle.library_trees.specs.ElementNames.{UseElement, array_element, use_elements}
pub use Rattle.library_trees.specs.NamedCells.{named_elements_at}
pub use Rattle.library_trees.specs.TreeRecords.FlatLayouts.{HasNodePath, HasNodePathBelow, HasOwnName, flat_layout}
pub use Rattle.library_trees.specs.TreeRecords.NamedTrees.{NamedTree, OwnBody}
pub use Rattle.library_trees.specs.TreeRecords.NamedTrees.NamedElements.{no_more}
pub use Rattle.library_trees.specs.CellLibrary.Views.{LibraryView}
pub use Rattle.ext_model.specs.declared.circuits.Circuit.{Circuit}
pub use Rattle.ext_model.specs.declared.records.NodeRec.{NodeRec}
pub use Rattle.ext_model.specs.NodeNames.{is_global, slashes_in}
pub use Rattle.ext_model.specs.RecordNames.{names_of}
pub use Rattle.layout_gen.specs.Generated.{tile_name, row_grid, stack_grid, tile_labels, tile_layout}
pub use Rattle.tech_model.specs.GeoCore.Covering.{is_covered, Covers}
pub use Rattle.tech_model.specs.declared.limits.TheConstants.{MOST_PLANES}
pub use Rattle.tech_model.specs.declared.raw.TypeId.{TypeId}
pub use Rattle.tech_model.specs.Rules.{HaveOwnSets}
pub use Rattle.tech_model.specs.Types.{images_of, plane_of}
pub use Rattle.tech_model.specs.WellFormed.{IsWellFormed}
pub use Rattle.library_trees.specs.CellLibrary.LayoutModel.Layouts.{Layout, IsMaterial}
pub use Rattle.cell_paint.specs.Painting.{place_at, with_paint}
pub use Rattle.ext_model.specs.ElementNames.{indexed_name}
pub use Rattle.tech_model.specs.GeoCore.FiniteSets.Chain.Chain.{stay}
pub use Rattle.layout_gen.proofs.Sizes.{area_to}
