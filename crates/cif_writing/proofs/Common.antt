-- What most files of proofs name of what stands below, and of the definitions of this crate.
pub use Rattle.std.proofs.Common.{◌≡◌, ℕ, ℤ, Bool, false, List, [], ◌∷◌, ◌++◌, map, refl, sym, ap, ◌∙◌, append_assoc, append-nil, subst, ◌+◌, length}
pub use Rattle.std.proofs.Common.{arith, ◌<◌, take, get_or, drop}
pub use Rattle.std.specs.Prelude.{Some, slice_get, Option, ◌==◌}
pub use Rattle.std.proofs.lemmas.List.{length-map}
pub use Rattle.std.proofs.lemmas.Option.{slice_get-get_or}
pub use Rattle.std.proofs.lemmas.Result.{err_from_is_err_and, on_ok_weaker}
pub use Rattle.text_scan.specs.Written.{text_of}
pub use Rattle.geo_core.specs.declared.squares.Rect.{Rect}
pub use Rattle.geo_core.specs.declared.transforms.Transform.{Transform}
pub use Rattle.geo_core.specs.declared.grids.Grid.{Grid}
pub use Rattle.geo_core.proofs.FiniteSets.Places.{slice_get-map_there, In-slice_get}
pub use Rattle.cell_tree.specs.Uses.{displacements}
pub use Rattle.cell_library.specs.LayoutTrees.{element_transform}
pub use Rattle.geo_strips.proofs.StripListLaws.{one_list}
pub use Rattle.tech_model.specs.declared.raw.RawTech.{RawTech}
pub use Rattle.cell_tree.specs.declared.use_tables.UseBody.{UseBody}
pub use Rattle.cell_library.specs.Libraries.{IsLawfulLibrary, LibraryParts, seen}
pub use Rattle.cell_library.specs.Limits.{HullIs}
pub use Rattle.cell_library.specs.LayoutModel.Layouts.{Layout}
pub use Rattle.cell_library.specs.Views.{view_at}
pub use Rattle.cell_library.proofs.ElementCounts.{use_is_lawful}
pub use Rattle.ext_model.specs.declared.tables.CellKey.{CellKey}
pub use Rattle.geo_core.specs.FiniteSets.Lists.{In}
pub use Rattle.cell_library.specs.Additions.{children_in}
pub use Rattle.tech_model.specs.declared.raw.PartSet.{PartSet}
pub use Rattle.tech_model.specs.Types.{parts_of}
pub use Rattle.geo_core.specs.Strips.{IsInUnion, IsStrips}
pub use Rattle.text_scan.proofs.WrittenLemmas.{text_of-append, lines_behind}
pub use Rattle.cif_writing.specs.Commands.{start_command, name_command, box_command, call_command, plain_call, part_lines}
pub use Rattle.cif_writing.specs.Symbols.{AreRuns, symbol_number, IsPart, IsSymbol, IsUse, elements_of_use}
pub use Rattle.cif_writing.specs.Parts.{HoldsPart, part_sets, is_atom, is_second_image, own_mark, atom_sets, mark_sets, areas_with}
pub use Rattle.cif_writing.specs.declared.limits.TheConstants.{LONGEST_TEXT}
pub use Rattle.cif_writing.specs.steps.Writing.{Writes, IsTooLongWith, AreTooLong}
