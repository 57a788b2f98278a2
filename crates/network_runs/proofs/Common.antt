-- What most files of proofs name of what stands below, and of the definitions of this crate.
pub use Rattle.std.proofs.Common.{◌≡◌, ◌<◌, ◌++◌, ℕ, List, [], ◌∷◌, map, length, refl, sym, ◌∙◌, subst, ap, drop}
pub use Rattle.std.specs.Prelude.{All}
pub use Rattle.session_model.specs.declared.report.ReportLine.{ReportLine}
pub use Rattle.sim_records.specs.SimRecords.{sim_of}
pub use Rattle.switch_net.specs.Network.{Network}
pub use Rattle.fault_grade.specs.declared.grading.Graded.{Graded}
pub use Rattle.line_answers.specs.LineEffects.{IsOfInside, reply}
pub use Rattle.line_answers.proofs.InsideLaws.{no_lines_inside, reply_inside}
pub use Rattle.vector_runs.specs.declared.replies.VecReply.TheVariants.{Unsettled, Settled}
pub use Rattle.stack_runs.specs.Summaries.{summary_of, summary_text}
pub use Rattle.sim_text.specs.declared.files.SimFile.{SimFile}
pub use Rattle.switch_net.specs.Net.{network_of}
pub use Rattle.network_runs.specs.Grading.{TellsFaults, grade_line, preferred_names}
pub use Rattle.network_runs.specs.Simulations.{IsNetOf, vector_line, TellsVectors}
