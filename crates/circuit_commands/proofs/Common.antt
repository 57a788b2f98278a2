-- What most files of proofs name of what stands below, and of the definitions of this crate.
pub use Rattle.std.proofs.Common.{ℕ, List, [], ◌∷◌, ◌++◌, refl, sym, subst, inl, inr, ap, ◌≡◌, ◌≤◌, ◌∙◌, rules}
pub use Rattle.std.specs.Prelude.{codes}
pub use Rattle.std.proofs.lemmas.Result.{IfOk-weaker}
pub use Rattle.session_model.specs.declared.report.ReportLine.{ReportLine}
pub use Rattle.ext_model.specs.declared.circuits.Circuit.{Circuit}
pub use Rattle.line_answers.specs.LineEffects.{IsOfInside, reply}
pub use Rattle.session_model.specs.FileTrees.{All, fetched_by}
pub use Rattle.ext_model.specs.declared.arrays.ArrayExt.{ArrayExt}
pub use Rattle.ext_loading.specs.PlainRecords.Plains.{plains}
pub use Rattle.ext_loading.specs.Readings.{circuit_files}
pub use Rattle.line_answers.proofs.AnswerLaws.{answers_refusal, both_ok}
pub use Rattle.flatten.specs.Sinks.{with_fets}
pub use Rattle.circuit_commands.specs.declared.circuits.Written.{Written}
pub use Rattle.circuit_commands.specs.declared.circuits.Written.TheVariants.{Stored, Passed}
pub use Rattle.circuit_commands.specs.CommandExt2sim.{Ext2simMeans}
