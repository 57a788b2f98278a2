-- What most files of proofs name of what stands below, and of the definitions of this crate.
pub use Rattle.std.proofs.Common.{◌≡◌, ◌∙◌, ℕ, List, [], ◌∷◌, ◌++◌, inl, inr, refl, sym, ap, subst, arith, Ok, Err, rules}
pub use Rattle.std.proofs.lemmas.Result.{IfOk-weaker}
pub use Rattle.outside_io.specs.Files.{Files}
pub use Rattle.text_form.specs.declared.reading.At.{At}
pub use Rattle.session_model.specs.declared.fetching.FetchFault.{FetchFault}
pub use Rattle.session_model.specs.Fetches.{text_in, FetchMeans}
pub use Rattle.sim_text.specs.declared.files.SimFile.{SimFile}
pub use Rattle.sim_text.specs.SimTexts.{sim_in}
pub use Rattle.switch_net.specs.Network.{Network}
pub use Rattle.network_runs.specs.Simulations.{vec_file, IsNetOf}
pub use Rattle.session_model.specs.declared.fetching.Fetched.{Fetched}
pub use Rattle.line_answers.proofs.AnswerLaws.{both_ok}
pub use Rattle.switch_net.specs.Net.{network_of}
pub use Rattle.network_commands.specs.CommandSimrun.{RunsRead, RunsRecords, RunsSource, RunsVectors, SimrunMeans, sim_file}
