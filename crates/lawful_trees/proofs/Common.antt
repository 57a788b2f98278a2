-- What most files of proofs name of what stands below, and of the definitions of this crate.
pub use Rattle.std.proofs.Common.{◌≡◌, ℕ, List, ◌∷◌, inl, inr, subst, IsTrue, ◌<◌, ℤ, refl, arith, ◌≤◌, pos, [], map, length, ◌∙◌, ap, sym, negsuc}
pub use Rattle.std.specs.Prelude.{Option, Some, None, All}
pub use Rattle.std.specs.Int.RustNames.{unsigned_abs}
pub use Rattle.std.proofs.lemmas.Int.{ints}
pub use Rattle.std.proofs.lemmas.List.{length-map}
pub use Rattle.finite_sets.specs.Lists.{In, Distinct}
pub use Rattle.finite_sets.proofs.Members.{In-map_source}
pub use Rattle.geo_core.specs.declared.grids.Grid.{Grid}
pub use Rattle.geo_core.specs.Elements.{elements_of}
pub use Rattle.ext_model.specs.NodeNames.{is_node_name, is_word}
pub use Rattle.ext_model.specs.ElementNames.{is_use_id}
pub use Rattle.library_trees.specs.ElementNames.{UseElement, array_element, use_elements}
pub use Rattle.finite_sets.proofs.Places.{slice_get-In}
pub use Rattle.geo_core.specs.declared.transforms.Transform.{Transform}
pub use Rattle.geo_core.specs.Images.{six_of}
pub use Rattle.library_trees.specs.CellTree.declared.use_tables.UseBody.{UseBody}
pub use Rattle.finite_sets.specs.Total.{sum_on, Total}
pub use Rattle.group_meetings.specs.LayoutModel.Places.{Place}
pub use Rattle.finite_sets.proofs.Searches.{All-from_In, All-In}
pub use Rattle.tech_model.specs.declared.raw.ClassRec.{ClassRec}
pub use Rattle.tech_model.specs.declared.raw.RawTech.{RawTech}
pub use Rattle.tech_model.specs.Rules.{KeepsRules}
pub use Rattle.tech_model.specs.WellFormed.{IsClass, IsWellFormed}
pub use Rattle.ext_model.specs.declared.records.MergeRec.{MergeRec}
pub use Rattle.ext_model.specs.Lawful.{IsMeasure, IsLawfulUse}
pub use Rattle.group_meetings.specs.LayoutModel.Layouts.{IsMaterial, Layout}
pub use Rattle.group_meetings.specs.LayoutModel.Technologies.{Class, class_of, rules_of}
pub use Rattle.library_trees.specs.TreeRecords.FlatLayouts.{flat_layout}
pub use Rattle.library_trees.specs.TreeRecords.NamedTrees.{NamedTree, layouts_of, named_elements_in, own_body, NamedElements}
pub use Rattle.library_trees.specs.TreeNames.CleanTrees.{IsCleanTree, ids_in}
pub use Rattle.group_meetings.specs.Members.{tree_parts}
pub use Rattle.ext_model.specs.declared.records.CellExt.{CellExt}
pub use Rattle.ext_model.specs.declared.records.UseRec.{UseRec}
pub use Rattle.group_meetings.specs.LayoutModel.LayerTypes.{HasTypesOf}
pub use Rattle.group_meetings.specs.LayoutModel.CellTrees.{CellTree, place_back}
pub use Rattle.group_meetings.specs.LayoutModel.FlatSets.{IsTyped, AreTyped}
pub use Rattle.library_trees.specs.CellLibrary.Libraries.{LibraryParts, IsLawfulLibrary, seen}
pub use Rattle.library_trees.specs.TreeRecords.NamedTrees.NamedTree.{named_tree}
pub use Rattle.library_trees.specs.CellTree.declared.limits.TheConstants.{MOST_DEPTH}
pub use Rattle.library_trees.proofs.CellLibrary.ElementCounts.{use_is_lawful}
pub use Rattle.library_trees.specs.TreeRecords.NamedTrees.NamedElements.{no_more, element_then}
pub use Rattle.geo_core.specs.Covering.{Covers}
pub use Rattle.library_trees.proofs.CellNodes.NodePlaces.{material_along}
