-- What most files of proofs name of what stands below, and of the definitions of this crate.
pub use Rattle.std.proofs.Common.{◌≡◌, ◌+◌, ℕ, ℤ, List, [], ◌∷◌, ◌++◌, length, map, refl, sym, subst, ap, ◌∙◌, arith, append_assoc, append-nil, ◌↔◌}
pub use Rattle.std.proofs.Common.{◌==◌, Bool, true, false, cond, Result, Ok, Err, ◌≤◌, ◌&&◌, drop}
pub use Rattle.std.specs.Prelude.{codes, fold}
pub use Rattle.std.specs.List.{AllByRecursion}
pub use Rattle.text_scan.specs.Decimal.{decimal}
pub use Rattle.text_scan.specs.Lines.{lines_of}
pub use Rattle.text_form.specs.Folds.{first_fault_or, text_state, last_number, ended_at}
pub use Rattle.text_form.specs.SaidLines.{and_then, saying}
pub use Rattle.text_form.proofs.SaidLaws.{read_said, said_of}
pub use Rattle.text_scan.specs.Words.{words_of}
pub use Rattle.sim_text.specs.declared.faults.SimFault.{SimFault}
pub use Rattle.sim_text.specs.declared.files.SimFet.{SimFet}
pub use Rattle.sim_text.specs.declared.files.SimFile.{SimFile}
pub use Rattle.sim_text.specs.declared.files.SimLine.{SimLine}
pub use Rattle.sim_text.specs.declared.files.SimLine.TheVariants.{Header, Fet, Cap, Alias, Nothing}
pub use Rattle.sim_text.specs.WrittenTexts.{saying_cap, saying_alias, lines_saying, numbers_behind_blanks, IsTooLong, words_saying}
pub use Rattle.sim_text.specs.declared.faults.SimFault.TheVariants.{Header as NoHeader}
pub use Rattle.sim_text.specs.LineForms.{says, begins_with_units}
pub use Rattle.sim_text.specs.Parts.{is_sim_name, name_in, letter_in, cap_in, four_numbers_in}
