-- What most files of proofs name of what stands below, and of the definitions of this crate.
pub use Rattle.std.proofs.Common.{◌≡◌, ℕ, [], ap, sym, ◌∙◌, subst, Option, Some, refl, ◌∷◌, arith}
pub use Rattle.std.specs.Prelude.{Ok, Err, Result, is_some}
pub use Rattle.std.proofs.lemmas.Result.{IfOk-weaker}
pub use Rattle.outside_io.specs.Files.{Files}
pub use Rattle.session_model.specs.Effects.{Effect, with_stores, Answers}
pub use Rattle.script_lines.specs.declared.commands.Command.{Command}
pub use Rattle.script_lines.specs.declared.faults.LineFault.{LineFault}
pub use Rattle.script_lines.specs.Commands.{command_of}
pub use Rattle.library_commands.specs.Workspace.States.{State}
pub use Rattle.text_scan.specs.Lines.{lines_of}
pub use Rattle.outside_io.specs.declared.limits.TheConstants.{LONGEST_FILE}
pub use Rattle.run_words.specs.declared.words.RunWords.{RunWords}
pub use Rattle.run_words.specs.RunWords.{words_of}
pub use Rattle.session_model.specs.Scripts.{WholeSession, stores_in, lines_in}
pub use Rattle.session_model.specs.declared.answer.Halt.{Halt}
pub use Rattle.session_model.specs.Progress.{IsCutShort, Progress}
pub use Rattle.session_model.specs.Reports.{is_told, text_of}
pub use Rattle.line_answers.specs.LineEffects.{reply}
pub use Rattle.library_commands.specs.Workspace.KeptSessions.{state_of}
pub use Rattle.outside_io.specs.Counts.{Rose}
pub use Rattle.magex_top.specs.Sessions.{CommandMeans, IsRunSession, ReadLineMeans, RunLineMeans, RunState, run_state_of, session_effect, first_run}
pub use Rattle.magex_top.specs.declared.status.Status.{Status}
pub use Rattle.magex_top.specs.declared.status.Status.TheVariants.{Done, Told, WriteFault}
pub use Rattle.magex_top.specs.Runs.{is_quiet, usage_text}
pub use Rattle.magex_top.specs.Statuses.{status_of}
