-- What most files of proofs name of what stands below, and of the definitions of this crate.
pub use Rattle.std.proofs.Common.{◌≡◌, ◌⊎◌, ℕ, inl, inr, subst, sym, arith, ◌∙◌, ◌<◌, ◌↔◌, zero, suc, List, [], ◌∷◌, Option, Some, refl, ap, ◌≤◌}
pub use Rattle.std.proofs.Common.{◌+◌, ℤ, pos, negsuc, Bool, true, false, FitsSigned, ◌++◌, length, ◌≢◌, ◌&&◌, not, Ok, map, None, Result, ◌==◌}
pub use Rattle.std.proofs.Common.{append_assoc, append-nil, cond, Err}
pub use Rattle.std.specs.Prelude.{slice_get, ◌*ℤ◌, codes, if◌then◌else◌}
pub use Rattle.std.proofs.lemmas.Option.{slice_get_within}
pub use Rattle.std.specs.Ordering.{int_eq}
pub use Rattle.std.proofs.lemmas.Bool.{and_from, cases_Bool}
pub use Rattle.std.proofs.lemmas.Int.{ints}
pub use Rattle.std.specs.List.{list_any}
pub use Rattle.std.specs.Str.{bytes_eq}
pub use Rattle.tech_model.specs.Types.{is_subset}
pub use Rattle.cif_writing.proofs.PartLaws.{IsBit}
pub use Rattle.finite_sets.proofs.Places.{slice_get-below, In-slice_get, slice_get-In, slice_get-In_take}
pub use Rattle.geo_core.specs.declared.squares.Square.{Square}
pub use Rattle.geo_core.specs.Images.{image, inverted}
pub use Rattle.cif_model.specs.declared.cifs.CifItem.{CifItem}
pub use Rattle.cif_model.specs.declared.cifs.CifItem.TheVariants.{Call, Area}
pub use Rattle.cif_model.specs.declared.cifs.CifMove.{CifMove}
pub use Rattle.cif_model.specs.declared.cifs.CifSymbol.{CifSymbol}
pub use Rattle.cif_model.specs.Cifs.{CifParts}
pub use Rattle.cif_model.specs.Meanings.{Means, items_at, moved}
pub use Rattle.cif_writing.specs.CellLibrary.Views.{LibraryView, view_at}
pub use Rattle.cif_writing.specs.Commands.{part_name, start_command, name_command, layer_command, box_command, finish_command}
pub use Rattle.cif_writing.specs.Parts.{part_sets, HoldsPart}
pub use Rattle.geo_core.specs.declared.squares.Rect.{Rect}
pub use Rattle.finite_sets.specs.Lists.{In}
pub use Rattle.geo_core.specs.declared.transforms.Transform.{Transform}
pub use Rattle.geo_core.specs.Covering.{Covers}
pub use Rattle.cif_writing.specs.Symbols.{AreRuns, elements_of_use, IsSymbol}
pub use Rattle.cif_reading.specs.Additions.{with_layer}
pub use Rattle.cif_reading.specs.Drafts.{layer_place, Draft}
pub use Rattle.use_orders.specs.LibraryOrder.{IsLibraryOrder}
pub use Rattle.use_orders.proofs.Visiting.{library_order-lists, library_order-behind}
pub use Rattle.cif_writing.specs.CellLibrary.Additions.{children_in}
pub use Rattle.cif_writing.specs.CellLibrary.CellPaint.Painting.{place_at}
pub use Rattle.cif_writing.specs.CellLibrary.Libraries.{IsLawfulLibrary, LibraryParts, seen}
pub use Rattle.finite_sets.proofs.Members.{In-append_left, In-append_right, In-map_source, In-append_cases, In-map}
pub use Rattle.text_scan.specs.PlainNames.{is_plain_name}
pub use Rattle.geo_core.specs.declared.orients.Orient.{Orient}
pub use Rattle.tech_model.specs.declared.raw.RawTech.{RawTech}
pub use Rattle.cell_tree.specs.declared.use_tables.UseBody.{UseBody}
pub use Rattle.cell_tree.specs.Uses.{displacements}
pub use Rattle.cif_writing.specs.CellLibrary.Limits.{HullIs}
pub use Rattle.cif_writing.specs.CellLibrary.LayoutModel.Layouts.{Layout}
pub use Rattle.finite_sets.specs.Chain.Chain.{stay}
pub use Rattle.ext_model.specs.declared.records.FetRec.{FetRec}
pub use Rattle.ext_model.specs.declared.arrays.MergeRow.{MergeRow}
pub use Rattle.ext_reading.specs.declared.faults.ExtReadFault.TheVariants.{NoHeader}
pub use Rattle.ext_reading.specs.declared.lines.HeaderLine.{HeaderLine}
pub use Rattle.ext_reading.specs.declared.lines.HeaderLine.TheVariants.{Tech, Timestamp, Version, Style, Scale, Classes}
pub use Rattle.ext_reading.specs.declared.lines.NodeLine.{NodeLine}
pub use Rattle.ext_reading.specs.declared.lines.FetLine.{FetLine}
pub use Rattle.ext_reading.specs.declared.lines.MergeLine.{MergeLine}
pub use Rattle.ext_reading.specs.declared.lines.ExtLine.{ExtLine}
pub use Rattle.ext_reading.specs.declared.lines.ExtLine.TheVariants.{Nothing, Header, Use, Node, Equiv, Fet, Merge}
pub use Rattle.ext_reading.specs.declared.outlines.Outline.{Outline}
pub use Rattle.text_scan.specs.Decimal.{decimal}
pub use Rattle.text_scan.specs.Written.{line_of, text_of}
pub use Rattle.cif_model.specs.Placings.{placing}
pub use Rattle.cif_reading.specs.declared.faults.CifFault.{CifFault}
pub use Rattle.text_form.specs.SaidLines.{and_then}
pub use Rattle.cif_reading.specs.CifTexts.{cif_in, parts_of}
pub use Rattle.geo_core.specs.Strips.{IsStrips}
pub use Rattle.text_scan.specs.Lines.{lines_of}
pub use Rattle.text_form.specs.declared.reading.At.{At}
pub use Rattle.ext_reading.specs.declared.faults.ExtReadFault.{ExtReadFault}
pub use Rattle.layout_model.specs.CellTrees.CellTree.{cell_tree}
pub use Rattle.file_laws.specs.CellCifs.{IsCellCif, symbol_place, IsCellSymbol, IsPartBoxes, AreUseItems, use_items}
pub use Rattle.file_laws.specs.CellMeanings.{HoldsPartOfTree}
pub use Rattle.file_laws.specs.CircuitFiles.{IsUseOf, IsNodeOf}
