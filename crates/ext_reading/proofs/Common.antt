-- What most files of proofs name of what stands below, and of the definitions of this crate.
pub use Rattle.std.proofs.Common.{◌≡◌, ◌⊎◌, ℕ, ℤ, pos, Bool, true, false, cond, Option, List, [], ◌∷◌, ◌++◌, map, FitsSigned, refl, sym, ap, ◌∙◌}
pub use Rattle.std.proofs.Common.{subst, arith, inl, inr, IsTrue, ◌≤◌, ◌<◌, ◌+◌, ◌*◌, length, Result, Ok, Err, length-append, ◌-◌, ◌==◌, ◌&&◌, zero}
pub use Rattle.std.proofs.Common.{suc, not, take, ◌||◌, get_or, drop, append_assoc, append-nil}
pub use Rattle.std.specs.Prelude.{Some, None, ◌<ℤ◌, ◌+ℤ◌, ◌-ℤ◌, nat_lt, nat_le, sum_by, codes, fold, slice_index, All, int_lt}
pub use Rattle.std.specs.Int.{w32}
pub use Rattle.std.specs.List.{flat_map, list_all, list_any, range_with_len, position, position_or_len, before_first, AllByRecursion}
pub use Rattle.std.specs.Str.{bytes_eq}
pub use Rattle.std.proofs.lemmas.Int.{ints}
pub use Rattle.std.proofs.lemmas.List.{map-append, length-map}
pub use Rattle.std.proofs.lemmas.Slice.Eq.{bytes_eq-Decides}
pub use Rattle.std.specs.Int.RustNames.{unsigned_abs}
pub use Rattle.std.proofs.lemmas.Bool.{and_parts, ltb-true, leb-true, le-leb, true≢false, lt-ltb}
pub use Rattle.std.proofs.lemmas.Bool.Decides.{Decides-int_eq, nat_tests}
pub use Rattle.std.proofs.lemmas.List.Sums.{sum_by-cons, position_or_len_is}
pub use Rattle.std.proofs.lemmas.List.Splits.{slice_split_first, slice_split_none, slice_split_at}
pub use Rattle.std.specs.Option.{is_some}
pub use Rattle.std.proofs.lemmas.List.FromFn.{length-range_with_len, get_or-range_with_len}
pub use Rattle.std.proofs.lemmas.List.Folds.{list_all-append, list_any_none}
pub use Rattle.finite_sets.specs.Lists.{In, Distinct}
pub use Rattle.finite_sets.proofs.Images.{In-flat_map_source}
pub use Rattle.finite_sets.proofs.Members.{In-append_left, In-map_source, In-push, In-push_cases, In-append_cases, In-get_or}
pub use Rattle.finite_sets.proofs.Searches.{list_any-of_absent, list_all-In, All-from_In, In-from_list_any, list_all-from_In}
pub use Rattle.geo_core.specs.declared.grids.Grid.{Grid}
pub use Rattle.geo_core.specs.Elements.{indices, IsLawful}
pub use Rattle.ext_model.specs.declared.records.UseRec.{UseRec}
pub use Rattle.ext_model.specs.declared.arrays.ArrayUse.{ArrayUse}
pub use Rattle.ext_model.specs.ElementNames.{is_use_id, indexed_name, IsIndexed}
pub use Rattle.ext_model.specs.LawfulArrays.{HasIdForm, IsArrayUse, IsMergeRow, IsLawfulArrayExt}
pub use Rattle.ext_model.specs.Plain.{plain_uses, uses_of_grid, element_use, plain, raised, before, behind, index_of, first_index}
pub use Rattle.ext_model.proofs.IndexedNames.{indexed_told, id_plain, number_comma}
pub use Rattle.element_index.specs.declared.uses.UseElements.{UseElements}
pub use Rattle.element_index.specs.GivenNames.{element_ids, names_in, is_among, gives_again}
pub use Rattle.element_index.proofs.HoldLaws.{names_more}
pub use Rattle.geo_core.specs.declared.limits.TheConstants.{MOST_ELEMENTS}
pub use Rattle.geo_core.specs.Images.{six_of}
pub use Rattle.geo_core.specs.Orientation.{matrix, is_orientation}
pub use Rattle.ext_model.specs.declared.limits.TheConstants.{MOST_CLASSES, MEASURE_EDGE, LENGTHS_EDGE, SHIFT_EDGE, FET_EDGE}
pub use Rattle.ext_model.specs.declared.records.TermRec.{TermRec}
pub use Rattle.ext_model.specs.Lawful.{IsMeasure, IsPlacement, IsLawfulNode, AreMeasures}
pub use Rattle.text_scan.specs.PlainNames.{is_plain_name}
pub use Rattle.text_scan.specs.Words.{words_of}
pub use Rattle.ext_model.specs.NodeNames.{is_word, is_node_name, is_word_byte, slashes_in}
pub use Rattle.text_scan.specs.Lines.{lines_of}
pub use Rattle.text_form.specs.Folds.{first_fault_or, text_state}
pub use Rattle.text_form.specs.SaidLines.{and_then}
pub use Rattle.ext_model.specs.declared.names.TheConstants.{SLASH}
pub use Rattle.ext_model.specs.declared.records.FetRec.{FetRec}
pub use Rattle.ext_model.specs.declared.records.CellExt.{CellExt}
pub use Rattle.ext_model.specs.declared.arrays.MergeRow.{MergeRow}
pub use Rattle.ext_model.specs.RecordNames.{node_names, element_names, names_of}
pub use Rattle.ext_model.specs.Paths.{path_text}
pub use Rattle.text_scan.specs.Decimal.{decimal}
pub use Rattle.ext_model.proofs.TextCuts.{Lacks, one_cut}
pub use Rattle.ext_model.specs.declared.records.NodeRec.{NodeRec}
pub use Rattle.ext_model.proofs.CutLaws.{before-cut, behind-cut}
pub use Rattle.text_scan.specs.Written.{IsWord, line_of, is_separator}
pub use Rattle.text_scan.proofs.WrittenLemmas.{IsWord-test, IsWord-decimal, words_of-line_of}
pub use Rattle.ext_model.specs.declared.arrays.ArrayExt.{ArrayExt}
pub use Rattle.ext_text.specs.WrittenTexts.{node_lines, use_name, term_words, row_path, ranged}
pub use Rattle.ext_text.specs.NodeLines.{quoted, measure_words, node_words}
pub use Rattle.element_index.proofs.IdLaws.{has_byte}
pub use Rattle.ext_reading.specs.Drafts.{elements_of, Draft, nothing_yet, is_incomplete, was_seen, with_seen, is_other_version, with_header}
pub use Rattle.ext_reading.specs.Drafts.{takes_header, takes_use, node_from, takes_alias, fet_from, has_its_nodes, leads, all_lead, range_in}
pub use Rattle.ext_reading.specs.Drafts.{merge_from, elements_known, takes_record, fits_classes, fits_version, takes_body, takes, step, finish}
pub use Rattle.ext_reading.specs.Drafts.{IsElementRange, range_path, second_of, count_of, is_range, range_parts, range_of}
pub use Rattle.ext_reading.specs.declared.faults.ExtReadFault.{ExtReadFault}
pub use Rattle.ext_reading.specs.declared.faults.ExtReadFault.TheVariants.{Range, BadLine, NoHeader, NameTwice, UseTwice, NoName}
pub use Rattle.ext_reading.specs.declared.limits.TheConstants.{LONGEST_READ_TEXT, MOST_USES, GREATEST_CLASS_VALUE}
pub use Rattle.ext_reading.specs.declared.lines.SideLine.{SideLine}
pub use Rattle.ext_reading.specs.declared.lines.Corners.{Corners}
pub use Rattle.ext_reading.specs.Parts.{is_short, is_next, is_path, unquoted, if_formed, word_in, cell_in, substrate_in, node_name_in, path_in}
pub use Rattle.ext_reading.specs.Parts.{numeral_in, numerals_in, is_slash, is_indexed, numerals_from}
pub use Rattle.ext_reading.specs.LineForms.{Six, HasNameForm, use_name_in, use_line, side_in, sides_from, words_say, says, span_in, array_in}
pub use Rattle.ext_reading.specs.Ranges.{short_in, measure_in, pair_in, measures_from, class_value_in, class_values_from, class_values_in, six_in}
pub use Rattle.ext_reading.specs.Ranges.{grid_in, point_in, term_in, terms_from, measures_in}
pub use Rattle.ext_reading.specs.declared.lines.UseLine.{UseLine}
pub use Rattle.ext_reading.specs.declared.lines.NodeLine.{NodeLine}
pub use Rattle.ext_reading.specs.declared.lines.FetLine.{FetLine}
pub use Rattle.ext_reading.specs.declared.lines.MergeLine.{MergeLine}
pub use Rattle.ext_reading.specs.declared.lines.HeaderLine.{HeaderLine}
pub use Rattle.ext_reading.specs.declared.lines.HeaderLine.TheVariants.{Tech, Classes, Timestamp, Version, Style, Scale}
pub use Rattle.ext_reading.specs.declared.lines.ExtLine.{ExtLine}
pub use Rattle.ext_reading.specs.declared.lines.ExtLine.TheVariants.{Nothing, Header, Use, Node, Equiv, Fet, Merge}
pub use Rattle.ext_reading.specs.declared.lines.Version.TheVariants.{One, Two, Other}
pub use Rattle.ext_reading.specs.declared.outlines.Outline.{Outline}
pub use Rattle.ext_reading.specs.ExtTexts.{with_use_said, with_words, with_line, with_elements, with_allowed}
pub use Rattle.ext_reading.specs.declared.lines.UseName.{UseName}
pub use Rattle.ext_reading.specs.declared.lines.ElementRange.{ElementRange}
pub use Rattle.ext_reading.specs.ReadBack.{IsReadable}
pub use Rattle.ext_reading.specs.declared.lines.Seen.{Seen}
