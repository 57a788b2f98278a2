-- What most files of proofs name of what stands below, and of the definitions of this crate.
pub use Rattle.std.proofs.Common.{◌≡◌, ◌<◌, ℕ, ℤ, suc, true, false, List, [], ◌∷◌, ◌++◌, length, map, Option, Some, None, FitsSigned, inl, inr, refl}
pub use Rattle.std.proofs.Common.{sym, ap, subst, ◌∙◌, arith, zero, take, ◌≤◌, Bool, cond, Result, Ok, Err, pos, ◌+◌, get_or, ◌==◌, append_assoc}
pub use Rattle.std.proofs.Common.{append-nil, drop}
pub use Rattle.std.specs.Prelude.{IfSome, IsTrue, slice_get, slice_index_or, All, IfOk, ◌&&◌, codes, ◌||◌, not, flat_map, nat_le}
pub use Rattle.std.specs.List.{AllByRecursion, list_any, list_all}
pub use Rattle.std.specs.Str.{bytes_eq}
pub use Rattle.std.specs.Cmp.Lexicographic.{same_text}
pub use Rattle.std.proofs.lemmas.Bool.{cases_Bool, and_from, cases_lt, and_parts, or_parts}
pub use Rattle.std.proofs.lemmas.Bool.Decides.{nat_tests, Decides-by_and}
pub use Rattle.std.proofs.lemmas.Int.{ints}
pub use Rattle.std.specs.declared.alloc.Global.{Global}
pub use Rattle.std.specs.Option.{ok_or, option_map}
pub use Rattle.std.specs.Int.{w64}
pub use Rattle.std.proofs.lemmas.List.Folds.{length-prefix_len}
pub use Rattle.finite_sets.specs.Lists.{In, Distinct}
pub use Rattle.geo_core.specs.declared.grids.Grid.{Grid}
pub use Rattle.geo_core.specs.declared.squares.Rect.{Rect}
pub use Rattle.geo_core.specs.Orientation.{matrix, is_orientation}
pub use Rattle.text_scan.specs.PlainNames.{is_plain_name}
pub use Rattle.cell_library.specs.LayoutModel.Layouts.{Layout}
pub use Rattle.cell_library.specs.CellPaint.Painting.{is_coordinate, is_in_range}
pub use Rattle.cell_library.specs.CellBodies.declared.bodies.CellUse.{CellUse}
pub use Rattle.cell_library.specs.CellBodies.Bodies.{IsLabel, ids_of}
pub use Rattle.cell_library.specs.CellBodies.Words.{is_use_id, is_label_text, is_text_byte, begins_with_blank, ends_with_blank}
pub use Rattle.cell_library.specs.CellBodies.Numbers.{are_few_elements, is_grid, is_placing, is_scale_number, is_position, has_sides, is_label_area}
pub use Rattle.cell_tree.specs.declared.use_tables.UseBody.{UseBody}
pub use Rattle.cell_tree.proofs.WholeLaws.{cell_is}
pub use Rattle.cell_library.specs.Libraries.{LibraryParts, IsLawfulLibrary, IsLawfulScale, seen, uses_in}
pub use Rattle.cell_library.specs.Views.{CellView, LibraryView, view_at}
pub use Rattle.cell_library.proofs.PaintEdits.{held_lawful}
pub use Rattle.cell_library.proofs.ViewLaws.{cell_viewed}
pub use Rattle.tech_model.specs.declared.limits.TheConstants.{MOST_PLANES, LONGEST_LABEL}
pub use Rattle.tech_model.specs.declared.raw.RawTech.{RawTech}
pub use Rattle.tech_model.specs.Types.{plane_of, has_name, layer_named, layer_number, layer_at, no_layer, first_name, is_type, type_number}
pub use Rattle.tech_model.specs.WellFormed.{IsWellFormed}
pub use Rattle.tech_model.specs.ColumnForms.{IsOnPlane}
pub use Rattle.cell_library.specs.LayoutModel.Places.{Place}
pub use Rattle.cell_library.proofs.CellPaint.ColumnsLaws.{column_type}
pub use Rattle.cell_library.specs.CellBodies.declared.bodies.CellBody.{CellBody}
pub use Rattle.text_scan.specs.Lines.{lines_of, is_line_feed}
pub use Rattle.text_form.specs.SaidLines.{and_then}
pub use Rattle.text_form.specs.Folds.{text_state}
pub use Rattle.text_scan.specs.Words.{words_of, is_blank, from_first_word}
pub use Rattle.tech_model.specs.declared.raw.LayerId.{LayerId}
pub use Rattle.tech_model.specs.declared.raw.Label.{Label as OneLabel}
pub use Rattle.geo_core.specs.Areas.{has_square}
pub use Rattle.text_scan.specs.Numbers.{number_of}
pub use Rattle.geo_core.specs.declared.squares.Square.{Square}
pub use Rattle.geo_core.specs.Planes.{HasValue}
pub use Rattle.geo_core.specs.Strips.{IsStrip}
pub use Rattle.text_scan.specs.Written.{IsWord, line_of}
pub use Rattle.text_scan.proofs.WrittenLemmas.{IsWord-test, words_of-line_of, words-decimals}
pub use Rattle.text_scan.proofs.DecimalLemmas.{number_of-decimal}
pub use Rattle.cell_library.specs.CellPaint.Paints.{layout_of}
pub use Rattle.mag_text.specs.declared.written.WrittenUse.{WrittenUse}
pub use Rattle.mag_text.specs.CellTexts.{IsWrittenUse, AreWrittenUses, IsCellText}
pub use Rattle.mag_text.specs.Drafts.{has_id, Draft, nothing_yet, step, finish}
pub use Rattle.mag_text.specs.ReadBack.{IsWritableUse, IsPaintInRange, FitsText, IsReadAs, AreNew, use_of, draft_of, drawn_of, drawn_strips}
pub use Rattle.mag_text.specs.ReadBack.{IsPaintable, AreWritable, IsWritable}
pub use Rattle.mag_text.specs.WrittenTexts.{IsLayered, layer_word, own_image, AreLayerStrips, AreAllStrips, cell_lines, numbers_line, tech_line}
pub use Rattle.mag_text.specs.WrittenTexts.{header_lines, group_line, area_line, group_lines, layer_lines, use_line, array_lines, transform_line}
pub use Rattle.mag_text.specs.WrittenTexts.{box_line, no_time_line, use_lines, label_line, labels_lines, end_line, label_numbers, scale_lines}
pub use Rattle.mag_text.specs.WrittenTexts.{numbers_behind_blanks, text_of_each}
pub use Rattle.mag_text.specs.Drawings.{painted_all, AreDrawn}
pub use Rattle.mag_text.specs.declared.files.Drawn.{Drawn}
pub use Rattle.mag_text.specs.declared.faults.MagFault.{MagFault}
pub use Rattle.mag_text.specs.declared.faults.MagFault.TheVariants.{UseTwice, Magic, BadLine, NoLayer, Range, EmptyRect, Transform as NoOrientation}
pub use Rattle.mag_text.specs.declared.files.Group.{Group as OneGroup}
pub use Rattle.mag_text.specs.declared.files.Group.TheVariants.{Paint, Labels, ReadOver}
pub use Rattle.mag_text.specs.declared.files.MagLine.{MagLine}
pub use Rattle.mag_text.specs.declared.files.MagLine.TheVariants.{Nothing, Tech, Timestamp, Scale, Group, End, Area, Label, Use, Array, Transform}
pub use Rattle.mag_text.specs.declared.files.MagLine.TheVariants.{Box}
pub use Rattle.mag_text.specs.declared.files.Section.{Section}
pub use Rattle.mag_text.specs.declared.files.Section.TheVariants.{Start, Header, Inside, Use as InUse, Between, Ended}
pub use Rattle.mag_text.specs.declared.files.Seen.{Seen}
pub use Rattle.mag_text.specs.declared.files.UsePart.TheVariants.{Named, Arrayed, Dated, Placed}
pub use Rattle.mag_text.specs.LineForms.{says, if_form, words_say}
pub use Rattle.mag_text.specs.NumberForms.{Four, coordinate_in, index_in, if_painted, if_touched, grid_in, six_in}
pub use Rattle.mag_text.specs.declared.written.LayerStrips.{LayerStrips}
