-- What most files of proofs name of what stands below, and of the definitions of this crate.
pub use Rattle.std.proofs.Common.{◌≡◌, ℕ, ℤ, pos, List, ◌++◌, map, sym, ◌∙◌, ap, subst, ◌+ℤ◌, ◌-ℤ◌, take, drop}
pub use Rattle.std.specs.Prelude.{codes}
pub use Rattle.std.specs.List.{flat_map}
pub use Rattle.std.specs.Int.{w128}
pub use Rattle.text_scan.specs.Decimal.{decimal}
pub use Rattle.text_scan.specs.Written.{behind_blanks}
pub use Rattle.ext_model.specs.declared.records.FetRec.{FetRec}
pub use Rattle.ext_model.specs.declared.arrays.MergeRow.{MergeRow}
pub use Rattle.ext_model.specs.Plain.{before, behind, first_index}
pub use Rattle.ext_text.specs.steps.Appended.{nodes_text}
pub use Rattle.ext_text.specs.WrittenTexts.{use_words, term_words, fet_words, merge_words}
