-- What most files of proofs name of what stands below, and of the definitions of this crate.
pub use Rattle.std.proofs.Common.{◌≡◌, ℕ, suc, ◌+◌, ◌-◌, ◌*◌, ◌/◌, ◌%◌, ◌<◌, ◌≤◌, List, [], ◌∷◌, ◌++◌, length, get_or, take, Some, inl, inr, refl}
pub use Rattle.std.proofs.Common.{sym, ap, subst, ◌∙◌, arith, zero, map, ℤ, pos, None, to_z, of_z, w64, rules}
pub use Rattle.std.specs.Prelude.{slice_get, Option}
pub use Rattle.std.proofs.lemmas.List.{append_assoc, take_all, length-map, length-append}
pub use Rattle.std.proofs.lemmas.Option.{get_or_from_slice_get, same_Some, slice_get_within, slice_get-map}
pub use Rattle.std.specs.Option.{option_map}
pub use Rattle.std.proofs.lemmas.Int.{ints, to_z-of_z}
pub use Rattle.library_trees.specs.LayoutModel.CellTrees.{CellTree, Standing, standings, under}
pub use Rattle.cell_tree.specs.declared.limits.TheConstants.{MOST_ELEMENTS_BELOW}
pub use Rattle.cell_tree.specs.declared.use_tables.UseBody.{UseBody}
pub use Rattle.cell_tree.specs.Uses.{displacements}
pub use Rattle.library_trees.specs.CellLibrary.LayoutTrees.{element_transform, tree_at}
pub use Rattle.library_trees.specs.CellLibrary.Libraries.{LibraryParts, IsLawfulLibrary, seen}
pub use Rattle.library_trees.specs.CellLibrary.PartCounts.{element_count}
pub use Rattle.library_trees.specs.CellLibrary.Views.{LibraryView, view_at}
pub use Rattle.library_trees.proofs.CellLibrary.ElementCounts.{use_is_lawful, few_elements}
pub use Rattle.library_trees.specs.TreeRecords.NamedTrees.{NamedTree, layouts_of, named_elements_in}
pub use Rattle.library_trees.specs.ElementNames.{UseElement, use_elements, array_element}
pub use Rattle.geo_core.specs.declared.transforms.Transform.{Transform}
pub use Rattle.geo_core.specs.declared.grids.Grid.{Grid}
pub use Rattle.geo_core.specs.Elements.{elements_of}
pub use Rattle.geo_core.specs.Images.{six_of}
pub use Rattle.library_trees.specs.CellRecords.{library_use, library_uses}
pub use Rattle.element_paths.specs.declared.starts.UseStart.{UseStart}
pub use Rattle.element_paths.specs.declared.steps.Step.{Step}
pub use Rattle.element_paths.specs.ElementPaths.{element_at, NamedElement}
pub use Rattle.element_paths.specs.UseStarts.{standing_below, HasBegun, HasNameAt, IsLastBegun}
