-- What most files of proofs name of what stands below, and of the definitions of this crate.
pub use Rattle.std.proofs.Common.{◌≡◌, ◌∙◌, ap, ◌⊎◌, inl, inr, ◌+◌, ◌≤◌, ℕ, Bool, true, cond, List, [], ◌∷◌, ◌++◌, sym, subst, arith, suc, false}
pub use Rattle.std.proofs.Common.{length, refl, append-nil, Some, append_assoc, take, drop}
pub use Rattle.std.specs.Prelude.{Result, Ok, Err, Option, Contains, OnErr}
pub use Rattle.std.proofs.lemmas.Bool.{cases_Bool, false≢true}
pub use Rattle.std.proofs.lemmas.List.{map-append}
pub use Rattle.std.proofs.lemmas.List.Elements.{Contains-append_left, Contains-append_right}
pub use Rattle.outside_io.specs.Counts.{Rose}
pub use Rattle.outside_io.specs.declared.outside.Shelf.{Ghosts as ShelfWords}
pub use Rattle.outside_io.specs.CallPlans.{CallPlan, told_after_call}
pub use Rattle.outside_io.specs.Files.{Files, with_file, bytes_of}
pub use Rattle.outside_io.specs.declared.faults.PutFault.{PutFault}
pub use Rattle.outside_io.specs.declared.faults.PutFault.TheVariants.{Failed, Memory}
pub use Rattle.text_scan.specs.Lines.{lines_of}
pub use Rattle.session_model.specs.declared.report.LineKind.{LineKind}
pub use Rattle.session_model.specs.declared.report.ReportLine.{ReportLine}
pub use Rattle.session_model.specs.Causes.{ComeFrom, line_kinds, StoreFailed}
pub use Rattle.session_model.specs.Counted.{AreCounted}
pub use Rattle.session_model.specs.declared.answer.Store.{Store}
pub use Rattle.session_model.specs.Effects.{Effect, after_fetches, state_after, with_stores}
pub use Rattle.session_model.specs.Reports.{report_of, is_told}
pub use Rattle.session_model.specs.Scripts.{Act, LinesMean, acts_of, answers_in, fetched_in, lines_in, stores_in, MeansInSound}
pub use Rattle.session_model.specs.Progress.{BeginsNext, DoesPart, IsPrefixOf, Progress, StoresSome}
pub use Rattle.session_model.specs.declared.answer.Halt.TheVariants.{WriteFault}
