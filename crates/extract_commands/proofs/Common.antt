-- What most files of proofs name of what stands below, and of the definitions of this crate.
pub use Rattle.std.proofs.Common.{◌≡◌, ℕ, List, [], ◌∷◌, ◌++◌, Some, refl, sym, subst, ◌<◌, ◌⊎◌, length, inl, inr, ap, ◌∙◌, ◌+◌, map, Option, None}
pub use Rattle.std.proofs.Common.{arith, length-append, rules}
pub use Rattle.std.specs.Prelude.{Result, Ok, Err, MatchOption}
pub use Rattle.std.specs.Int.RustNames.{unsigned_abs}
pub use Rattle.std.proofs.lemmas.Int.{to_z-of_z}
pub use Rattle.std.proofs.lemmas.Result.{IfOk-weaker}
pub use Rattle.session_model.specs.declared.answer.Answer.{Answer}
pub use Rattle.session_model.specs.declared.answer.Store.{Store}
pub use Rattle.session_model.specs.declared.fetching.FetchFault.{FetchFault}
pub use Rattle.session_model.specs.declared.report.ReportLine.{ReportLine}
pub use Rattle.session_model.specs.Effects.{AnswersFetching, Effect, AnswersAlone}
pub use Rattle.line_answers.proofs.AnswerLaws.{answers_refusal, both_ok}
pub use Rattle.line_answers.specs.LineEffects.{refused, IsOfInside, reply}
pub use Rattle.line_answers.specs.Refusals.{refusal_line, no_cell}
pub use Rattle.workspace.specs.NetworkRuns.declared.network_runs.NetworkRun.{NetworkRun}
pub use Rattle.workspace.specs.declared.extractions.Extracting.TheVariants.{Done}
pub use Rattle.workspace.specs.declared.extractions.Extraction.{Extraction}
pub use Rattle.workspace.specs.Extracting.{IsExtracted}
pub use Rattle.workspace.specs.States.{State, Workspace}
pub use Rattle.ext_model.specs.declared.circuits.Circuit.{Circuit}
pub use Rattle.circuit_model.specs.declared.limits.CircuitLimit.{CircuitLimit}
pub use Rattle.layout_gen.specs.CellLibrary.Views.{LibraryView, cell_named, view_at, CellView}
pub use Rattle.workspace.specs.LibraryAnswers.HierMerge.UncleanCells.{IsCleanCell}
pub use Rattle.uniqueness.specs.CircuitCommands.declared.circuits.CircuitFile.{CircuitFile}
pub use Rattle.uniqueness.specs.CircuitCommands.declared.circuits.Written.{Written}
pub use Rattle.uniqueness.specs.CircuitCommands.declared.circuits.Written.TheVariants.{Passed, Stored}
pub use Rattle.uniqueness.specs.CircuitCommands.Circuits.{IsWritten, lines_of, stores_of}
pub use Rattle.workspace.specs.CellCircuits.{IsCircuitAt, IsSimulableCircuitAt}
pub use Rattle.workspace.specs.Extractions.{RefusesUnclean, with_clean}
pub use Rattle.layout_gen.specs.CellLibrary.LawfulViews.{IsSoundView, IsLawfulView}
pub use Rattle.layout_gen.specs.CellLibrary.Libraries.{IsLawfulLibrary, LibraryParts, seen}
pub use Rattle.layout_gen.proofs.CellLibrary.ViewLaws.{count_seen}
pub use Rattle.workspace.specs.NetworkRuns.declared.network_runs.NetworkRun.TheVariants.{Stack}
pub use Rattle.workspace.specs.UndoLog.Inverses.{Inverses, kept_versions}
pub use Rattle.workspace.specs.KeptSessions.{SeesSoundLibrary, edited_state}
pub use Rattle.ext_model.specs.declared.records.CellExt.{CellExt}
pub use Rattle.uniqueness.specs.LibraryTrees.NamedCells.{named_tree_at}
pub use Rattle.finite_sets.specs.Lists.{In}
pub use Rattle.geo_core.specs.declared.squares.Rect.{Rect}
pub use Rattle.layout_gen.specs.CellLibrary.Additions.{children_in}
pub use Rattle.layout_gen.specs.CellLibrary.TechModel.Rules.{KeepsRules}
pub use Rattle.layout_gen.specs.CellLibrary.TechModel.WellFormed.{IsWellFormed}
pub use Rattle.uniqueness.specs.LibraryTrees.TreeRecords.NamedTrees.{NamedTree, own_body}
pub use Rattle.uniqueness.specs.LibraryTrees.TreeNames.CleanTrees.{IsCleanTree}
pub use Rattle.session_model.specs.Fetches.{text_in}
pub use Rattle.workspace.specs.NetworkRuns.Simulations.{vec_file}
pub use Rattle.layout_gen.specs.Generated.{array_cell, row_grid, row_name, stack_grid, stack_name, tile_cell}
pub use Rattle.workspace.specs.declared.extractions.Extracting.{Extracting}
pub use Rattle.workspace.proofs.ExtractionLaws.{fresh_below}
pub use Rattle.line_answers.proofs.InsideLaws.{both_inside}
pub use Rattle.workspace.proofs.ExtractionInside.{extraction_inside, unclean_inside}
pub use Rattle.workspace.proofs.LibraryAnswers.EditScript.CellLaws.{found_there}
pub use Rattle.workspace.proofs.CellCommands.{answers_on_cell, refused_on_cell}
pub use Rattle.extract_commands.specs.CellRuns.{RunsCell, TellsAt, RunsExtracted}
pub use Rattle.extract_commands.specs.CommandVectors.{RunsFetched, VectorsMeans, run_of}
pub use Rattle.extract_commands.specs.declared.command_vectors.VectorQuestion.{VectorQuestion}
pub use Rattle.extract_commands.specs.CommandCircuits.{IsWrittenAt, WritesCircuit}
pub use Rattle.extract_commands.specs.OneCircuits.{CellCircuitsAreUnique, CellCircuitsPassNoLimit, CellLimitsAreUnique}
pub use Rattle.extract_commands.specs.OneExtractions.{ExtractedCellsAreNotRefused, ExtractionsAreUnique, UncleanRefusalsAreUnique}
pub use Rattle.extract_commands.specs.CommandExtract.{ExtractsCell, extracted_text}
pub use Rattle.extract_commands.specs.CommandGenerate.{GeneratesStack, stack_cell, unless_refused}
