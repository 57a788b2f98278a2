-- What most files of proofs name of what stands below, and of the definitions of this crate.
pub use Rattle.std.proofs.Common.{◌≡◌, ◌∙◌, ◌<◌, ◌≤◌, inl, inr, ℕ, List, [], ◌∷◌, length, refl, ap, sym, subst, ℤ, map, pos, arith, get_or, rules}
pub use Rattle.std.specs.Prelude.{Result, Ok, Err, zip, All}
pub use Rattle.std.proofs.lemmas.Result.{IfOk-weaker}
pub use Rattle.session_model.specs.declared.answer.Answer.{Answer}
pub use Rattle.cif_writing.specs.declared.limits.TheConstants.{LONGEST_TEXT}
pub use Rattle.cif_writing.specs.Symbols.{IsCifText}
pub use Rattle.line_answers.proofs.AnswerLaws.{answers_refusal, answers_with, both_ok}
pub use Rattle.line_answers.specs.LineEffects.{reply, refused, FreeEffect}
pub use Rattle.line_answers.specs.Refusals.{refusal_line, too_many}
pub use Rattle.text_form.specs.declared.reading.At.{At}
pub use Rattle.session_model.specs.declared.fetching.FetchFault.{FetchFault}
pub use Rattle.session_model.specs.Effects.{AnswersFetching}
pub use Rattle.cif_model.specs.Cifs.{CifParts}
pub use Rattle.cif_reading.specs.declared.faults.CifFault.{CifFault}
pub use Rattle.cif_reading.specs.CifTexts.{cif_in}
pub use Rattle.cif_expansion.specs.Expansions.{StaysInRange, IsExpanded}
pub use Rattle.cif_expansion.specs.Limits.{IsFirstPast, IsWithinLimits}
pub use Rattle.geo_core.specs.FiniteSets.Total.{sum_on}
pub use Rattle.rect_contacts.specs.Squares.{area_of}
pub use Rattle.session_model.specs.declared.report.ReportLine.{ReportLine}
pub use Rattle.cif_model.specs.Meanings.{IsMeant}
pub use Rattle.cif_expansion.specs.declared.expansion.LayerStrips.{LayerStrips}
pub use Rattle.geo_core.specs.declared.squares.Rect.{Rect}
pub use Rattle.geo_core.specs.declared.squares.Square.{Square}
pub use Rattle.use_orders.specs.LibraryOrder.{IsLibraryOrder}
pub use Rattle.cell_library.specs.Additions.{children_in}
pub use Rattle.session_model.specs.Fetches.{text_in}
pub use Rattle.cif_commands.specs.CommandCif.{CifMeans, cif_store, written_text, cif_file}
pub use Rattle.cif_commands.specs.CommandCifstat.{MeasuresCif, MeasuresFetched, MeasuresText, TellsLayers, HasSquares, layer_line, stat_lines}
pub use Rattle.cif_commands.specs.steps.Layers.{layer_area}
