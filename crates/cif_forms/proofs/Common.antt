-- What most files of proofs name of what stands below, and of the definitions of this crate.
pub use Rattle.std.proofs.Common.{◌≡◌, ◌<◌, ◌≤◌, ◌+◌, ◌-◌, ◌==◌, ℕ, Bool, true, false, cond, List, [], ◌∷◌, ◌++◌, length, drop, get_or, append_assoc}
pub use Rattle.std.proofs.Common.{sym, ap, ◌∙◌, arith, Result, Ok, Err, Some, None, take, refl, inl, inr, suc, ◌^◌, ◌&&◌, ◌||◌, not, map, append-nil}
pub use Rattle.std.specs.List.{slice_split, position, position_or_len, All, onto_first, list_all, flat_map, AllByRecursion}
pub use Rattle.std.proofs.lemmas.Bool.{cases_lt, lt-ltb, cases_Bool, and_parts, and_from}
pub use Rattle.std.specs.Char.{is_ascii_digit, is_ascii_uppercase}
pub use Rattle.std.specs.Int.{int_max, int_min, w32}
pub use Rattle.std.specs.Str.{all_ascii_digits}
pub use Rattle.std.proofs.lemmas.List.Folds.{list_all-append}
pub use Rattle.std.proofs.lemmas.Grind.{common_steps}
pub use Rattle.text_form.specs.declared.reading.At.{At}
pub use Rattle.text_form.specs.Parts.{first_faulty_part_or}
pub use Rattle.text_scan.specs.declared.numeral.NumFault.TheVariants.{Empty, Digit}
pub use Rattle.text_scan.specs.Written.{line_of}
pub use Rattle.text_scan.proofs.DecimalLemmas.{all_ascii_digits-natural_text, decimal-std}
pub use Rattle.cif_forms.specs.declared.comments.Scan.{Scan}
pub use Rattle.cif_forms.specs.Bytes.{is_semicolon, is_numeral, is_blank, is_mark}
pub use Rattle.cif_forms.specs.Comments.{shown_from, at_start}
pub use Rattle.cif_forms.specs.Cutting.{line_of_command, command_at, commands_from, line_ends, line_ends_before, step_on}
pub use Rattle.cif_forms.specs.declared.commands.CifCommand.TheVariants.{End, ReadOver}
pub use Rattle.cif_forms.specs.Commands.{layer_said, said_by, said_from, trimmed, goes_on, moves_in, without_last_blanks}
pub use Rattle.cif_forms.specs.declared.words.CifWord.TheVariants.{Number}
pub use Rattle.cif_forms.specs.declared.limits.TheConstants.{HIGHEST, LOWEST}
pub use Rattle.cif_forms.specs.Words.{begins_with_numeral, from_first_word}
pub use Rattle.cif_forms.specs.Written.{AreUnmarked, is_unmarked_text, is_unmarked}
