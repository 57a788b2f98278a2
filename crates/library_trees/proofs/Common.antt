-- What most files of proofs name of what stands below, and of the definitions of this crate.
pub use Rattle.std.proofs.Common.{◌≡◌, ℕ, zero, suc, ap, ◌∙◌, sym, subst, ◌<◌, List, [], ◌∷◌, ◌++◌, length, refl, arith, ℤ, true, map, inl, inr, ◌≤◌}
pub use Rattle.std.specs.Prelude.{Option, Some, None, slice_get}
pub use Rattle.std.specs.List.{AllByRecursion}
pub use Rattle.std.proofs.lemmas.Bool.{cases_lt}
pub use Rattle.finite_sets.specs.Chain.Chain.{stay, go}
pub use Rattle.cell_library.specs.CellTree.declared.limits.TheConstants.{MOST_DEPTH}
pub use Rattle.cell_library.specs.Views.{CellView, LibraryView, view_at, no_cell, with_cell_changed}
pub use Rattle.tree_names.specs.TreeRecords.NamedTrees.NamedTree.{named_tree}
pub use Rattle.cell_library.specs.LayoutModel.CellTrees.{CellTree}
pub use Rattle.cell_library.specs.Libraries.{LibraryParts, IsLawfulLibrary, seen, cells_seen, uses_in}
pub use Rattle.ext_model.specs.GeoCore.declared.transforms.Transform.{Transform}
pub use Rattle.cell_library.specs.CellTree.Uses.{HasChild}
pub use Rattle.cell_library.proofs.LayoutTreeLaws.{children_are_cells, uses_seen, depth_is, state_is}
pub use Rattle.cell_library.proofs.ViewLaws.{length-cell_views}
pub use Rattle.finite_sets.specs.Lists.{Distinct, In}
pub use Rattle.finite_sets.proofs.Members.{In-map_source, In-append_cases}
pub use Rattle.ext_model.specs.GeoCore.declared.grids.Grid.{Grid}
pub use Rattle.cell_library.specs.TechModel.declared.raw.RawTech.{RawTech}
pub use Rattle.cell_library.specs.CellTree.declared.use_tables.UseBody.{UseBody}
pub use Rattle.tree_names.specs.TreeRecords.NamedTrees.{NamedTree, NamedElements}
pub use Rattle.ext_model.specs.declared.records.CellExt.{CellExt}
pub use Rattle.cell_library.specs.CellTree.Sizes.{CellState, size_at}
pub use Rattle.cell_library.specs.CellTree.Trees.{cell_at}
pub use Rattle.cell_library.specs.CellTree.declared.sizes.Size.{Size}
pub use Rattle.cell_library.proofs.CellTree.SizeLaws.{child_is_lower}
pub use Rattle.cell_library.specs.CellTree.declared.sizes.Dimension.TheVariants.{Depth}
pub use Rattle.library_trees.specs.NamedCells.{IsAtOrBelow, named_elements_from, named_tree_to, named_elements_at}
pub use Rattle.library_trees.specs.ElementNames.{UseElement, array_element, use_elements}
pub use Rattle.library_trees.specs.CircuitModel.Elements.{ext_of}
