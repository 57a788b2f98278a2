-- What most files of proofs name of what stands below, and of the definitions of this crate.
pub use Rattle.std.proofs.Common.{◌≡◌, ℕ, List, Option, Some, None, refl, sym, ◌∙◌, [], ◌∷◌, inl, inr, subst, suc, length, arith, ap, ◌<◌, ◌⊎◌, Err}
pub use Rattle.std.proofs.Common.{Ok, rules}
pub use Rattle.std.specs.Prelude.{IfSome, codes, MatchOption, IfOk}
pub use Rattle.std.proofs.lemmas.Result.{IfOk-weaker}
pub use Rattle.cell_library.specs.Views.{CellView, LibraryView, cell_named, with_cell_changed, view_at}
pub use Rattle.script_lines.specs.declared.commands.Command.{Command}
pub use Rattle.uniqueness.specs.EditScript.Editing.{Editing, editing_of}
pub use Rattle.uniqueness.specs.EditScript.Edits.{applied}
pub use Rattle.session_model.specs.declared.answer.Answer.{Answer}
pub use Rattle.session_model.specs.Effects.{AnswersAlone, AnswersFetching, Effect, Answers}
pub use Rattle.ext_model.specs.declared.tables.CellKey.{CellKey}
pub use Rattle.cell_library.specs.Libraries.{LibraryParts, IsLawfulLibrary, IsSame, seen, edits_of}
pub use Rattle.uniqueness.specs.EditScript.declared.faults.EditFault.{EditFault}
pub use Rattle.uniqueness.specs.EditScript.Refusals.{ApplyIsRefused}
pub use Rattle.look_commands.specs.UndoLog.Inverses.{Inverses, kept_versions, no_inverses, Keeps}
pub use Rattle.look_commands.specs.UndoLog.Versions.{versions_after, Return, Versions}
pub use Rattle.workspace.specs.Caches.{Agrees, Records, is_dirty}
pub use Rattle.workspace.specs.LibraryAnswers.Refusals.{edit_refusal, load_refusal}
pub use Rattle.line_answers.specs.Refusals.{refusal_line, no_cell}
pub use Rattle.line_answers.specs.LineEffects.{refused, reply}
pub use Rattle.workspace.specs.States.{Workspace, State}
pub use Rattle.line_answers.proofs.AnswerLaws.{answers_refusal, both_ok}
pub use Rattle.workspace.proofs.WorkspaceLaws.{same_workspace, workspace_of, same_current}
pub use Rattle.outside_io.specs.Files.{Files}
pub use Rattle.uniqueness.specs.CellLoading.declared.faults.LoadFault.{LoadFault}
pub use Rattle.cell_library.proofs.ViewLaws.{count_seen, length-changed_at}
pub use Rattle.workspace.specs.LibraryAnswers.Replies.{loaded_text, tech_text}
pub use Rattle.workspace.proofs.RecordLaws.{agrees_same}
pub use Rattle.session_model.specs.Fetches.{AgreeOn, text_in}
pub use Rattle.uniqueness.proofs.EditScript.CellLaws.{named_below, found_there}
pub use Rattle.session_model.specs.declared.answer.Store.{Store}
pub use Rattle.session_model.specs.declared.report.ReportLine.{ReportLine}
pub use Rattle.cell_library.specs.Additions.{children_in}
pub use Rattle.look_commands.specs.UndoLog.declared.faults.UndoFault.{UndoFault}
pub use Rattle.uniqueness.specs.UncleanCells.{UncleanCellsBelowAreUnique}
pub use Rattle.look_commands.specs.declared.looks.Look.{Look}
pub use Rattle.look_commands.specs.Looks.{Tells}
pub use Rattle.session_model.specs.declared.fetching.FetchFault.{FetchFault}
pub use Rattle.tech_model.specs.declared.raw.RawTech.{RawTech}
pub use Rattle.tech_file.specs.declared.reading.TechAt.{TechAt}
pub use Rattle.tech_file.specs.Reading.{technology_of}
pub use Rattle.look_commands.proofs.UndoLog.LeadLaws.{versions_unique}
pub use Rattle.workspace.proofs.VersionLaws.{KeepsSome, log_same, log_forgotten}
pub use Rattle.workspace.specs.KeptSessions.{state_of, edited_state}
pub use Rattle.workspace.proofs.CellCommands.{answers_on_cell}
pub use Rattle.library_commands.specs.CommandEdits.{EditMeans, MarksAfter, MarksCurrent, MarksAbove}
pub use Rattle.library_commands.specs.CommandLoad.{LoadMeans, with_loaded}
pub use Rattle.library_commands.specs.CommandChecks.{CheckMeans, ChecksIn}
pub use Rattle.library_commands.specs.declared.command_returns.Way.{Way}
pub use Rattle.library_commands.specs.CommandReturns.{IsBrought, ReturnIsRefused}
pub use Rattle.library_commands.specs.CommandTech.{TechMeans, file_effect, tech_effect, tech_file}
pub use Rattle.library_commands.specs.declared.command_returns.Way.TheVariants.{Redo, Undo}
