-- What most files of proofs name of what stands below, and of the definitions of this crate.
pub use Rattle.std.proofs.Common.{◌≡◌, ℕ, suc, ℤ, pos, Bool, true, false, List, [], ◌∷◌, Result, Ok, Err, refl, ◌∙◌, sym, ap, zero, ◌++◌, Some, None}
pub use Rattle.std.proofs.Common.{take, drop, map, arith, length, Option, ◌≢◌, replicate, rules}
pub use Rattle.std.specs.Prelude.{◌&&◌, if◌then◌else◌, MatchOption, ok_or}
pub use Rattle.std.specs.List.{list_all}
pub use Rattle.std.proofs.lemmas.Bool.{and_from}
pub use Rattle.std.proofs.lemmas.Grind.{common_steps}
pub use Rattle.std.proofs.lemmas.Int.{ints}
pub use Rattle.cell_bodies.specs.Words.{is_label_text, without_outer_blanks}
pub use Rattle.cell_bodies.specs.declared.limits.TheConstants.{LAST_POSITION}
pub use Rattle.text_scan.specs.Words.{words_of}
pub use Rattle.text_scan.specs.declared.numeral.NumFault.TheVariants.{Empty, Digit}
pub use Rattle.script_lines.specs.declared.faults.LineFault.{LineFault}
pub use Rattle.script_lines.specs.Arguments.{ArgumentKind, Plain, Layer, UseId, Number, Position, Count, Text, Argument, is_between, is_formed}
pub use Rattle.script_lines.specs.Arguments.{behind, behind_word, is_number, number_in, Word, Value, label_given}
pub use Rattle.script_lines.specs.Commands.{command_with, given_to, label_kinds}
pub use Rattle.script_lines.specs.steps.NextWords.{begins_with_numbers, fitting, is_fitting, begins_with}
pub use Rattle.script_lines.specs.declared.faults.LineFault.TheVariants.{BadForm, NumberRange, Memory as OutOfMemory}
