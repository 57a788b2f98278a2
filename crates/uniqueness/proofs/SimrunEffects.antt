-- `simrun` has one effect: each thing that its files give has one answer.
use Rattle.uniqueness.proofs.Common.{◌≡◌, inl, inr, ℕ, List, [], ◌∷◌, ◌++◌, Ok, Err, sym, ap, ◌∙◌, Result, Files, At, ReportLine, SimFault, SimFile}
use Rattle.uniqueness.proofs.Common.{SimLimit, Network, FreeEffect, refused, VectorAnswersAreUnique}
use Rattle.session_model.specs.declared.fetching.FetchFault.{FetchFault}
use Rattle.session_model.specs.Fetches.{text_in}
use Rattle.sim_text.specs.SimTexts.{sim_in}
use Rattle.circuit_commands.specs.LineAnswers.LineEffects.{accepted}
use Rattle.circuit_commands.specs.LineAnswers.Refusals.{too_many}
use Rattle.network_commands.specs.NetworkRuns.Refusals.{sim_limit_word}
use Rattle.network_commands.specs.NetworkRuns.Simulations.{IsNetOf, vec_file}
use Rattle.network_commands.specs.CommandSimrun.{RunsRead, RunsRecords, RunsSource, RunsVectors, SimrunMeans, sim_file}
use Rattle.uniqueness.proofs.SimLimits.{passes_none, same_limit}

module _ (one_answer : VectorAnswersAreUnique) (budget number : ℕ) (files : Files) (file : List ℕ) (effect other : FreeEffect) where
  -- what was fetched is run with one effect
  same_vectors : (text : Result (List ℕ) FetchFault) (sim : SimFile) (net more : Network) (names others : List (List ℕ × ℕ)) (fetched : List (List ℕ))
      → IsNetOf sim net names → IsNetOf sim more others → RunsVectors budget number text file net names fetched effect
      → RunsVectors budget number text file more others fetched other → effect ≡ other
  same_vectors (Ok text) sim net more names others fetched p q a b =
      let lines = one_answer budget number sim text net more names others a.lines b.lines p q a.tells b.tells in
      a.is ∙ ap (λ (told : List ReportLine). accepted {State = Unit {0}} tt told (fetched ++ file ∷ [])) lines ∙ sym b.is
  same_vectors (Err fault) sim net more names others fetched p q a b = a ∙ sym b

  -- and so is what sim records have: a network, or a limit that it would pass
  same_records : (sim : SimFile) (fetched : List (List ℕ)) → RunsRecords budget number files sim file fetched effect
      → RunsRecords budget number files sim file fetched other → effect ≡ other
  same_records sim fetched (inl a) (inl b) =
      let limit = same_limit sim a.limit b.limit a.passes b.passes in
      a.is ∙ ap (λ (one : SimLimit). refused {State = Unit {0}} number tt (too_many (sim_limit_word one)) fetched) limit ∙ sym b.is
  same_records sim fetched (inl a) (inr b) = absurd (passes_none sim b.net b.names a.limit b.is_net a.passes)
  same_records sim fetched (inr a) (inl b) = absurd (passes_none sim a.net a.names b.limit a.is_net b.passes)
  same_records sim fetched (inr a) (inr b) =
      same_vectors (text_in files file) sim a.net b.net a.names b.names fetched a.is_net b.is_net a.runs b.runs

  same_read : (source : List ℕ) (read : Result SimFile (At SimFault)) → RunsRead budget number files source read file effect
      → RunsRead budget number files source read file other → effect ≡ other
  same_read source (Ok sim) a b = same_records sim (source ∷ []) a b
  same_read source (Err at) a b = a ∙ sym b

  pub same_source : (source : List ℕ) (text : Result (List ℕ) FetchFault) → RunsSource budget number files source text file effect
      → RunsSource budget number files source text file other → effect ≡ other
  same_source source (Ok text) a b = same_read source (sim_in text) a b
  same_source source (Err fault) a b = a ∙ sym b

pub same_simrun : VectorAnswersAreUnique → (budget number : ℕ) (files : Files) (name file : List ℕ) (effect other : FreeEffect)
    → SimrunMeans budget number files name file effect → SimrunMeans budget number files name file other → effect ≡ other
same_simrun one_answer budget number files name file effect other =
    same_source one_answer budget number files (vec_file file) effect other (sim_file name) (text_in files (sim_file name))
