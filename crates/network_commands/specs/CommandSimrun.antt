-- `simrun c f`: runs f.vec on the network of c.sim.
use Rattle.std.specs.Prelude.{◌≡◌, ◌⊎◌, ℕ, List, [], ◌∷◌, ◌++◌, Result, Ok, Err, codes}
use Rattle.outside_io.specs.Files.{Files}
use Rattle.text_form.specs.declared.reading.At.{At}
use Rattle.session_model.specs.declared.fetching.FetchFault.{FetchFault}
use Rattle.session_model.specs.declared.report.ReportLine.{ReportLine}
use Rattle.session_model.specs.Fetches.{text_in}
use Rattle.sim_text.specs.declared.faults.SimFault.{SimFault}
use Rattle.sim_text.specs.declared.files.SimFile.{SimFile}
use Rattle.sim_text.specs.declared.limits.SimLimit.{SimLimit}
use Rattle.sim_text.specs.SimTexts.{sim_in}
use Rattle.switch_net.specs.Network.{Network}
use Rattle.line_answers.specs.LineEffects.{FreeEffect, accepted, refused}
use Rattle.line_answers.specs.Refusals.{file_refusal, too_many}
use Rattle.network_commands.specs.Refusals.{sim_refusal}
use Rattle.network_runs.specs.Refusals.{sim_limit_word}
use Rattle.network_runs.specs.Simulations.{IsNetOf, PassesNet, TellsVectors, vec_file}

-- the sim file of this name
abbrev pub sim_file : List ℕ → List ℕ
sim_file name = name ++ codes ".sim"

-- The vectors were fetched, and what they are answered with is told.
pub record TellsFetched (budget number : ℕ) (text : List ℕ) (net : Network) (names : List (List ℕ × ℕ)) (fetched : List (List ℕ))
    (effect : FreeEffect) : Type 0 where
  pub lines : List ReportLine
  pub tells : TellsVectors budget number text net names lines
  pub is : effect ≡ accepted tt lines fetched

-- The vector file is fetched once there is a network.
abbrev pub RunsVectors : ℕ → ℕ → Result (List ℕ) FetchFault → List ℕ → Network → List (List ℕ × ℕ) → List (List ℕ) → FreeEffect → Type 0
RunsVectors budget number (Ok text) file net names fetched effect = TellsFetched budget number text net names (fetched ++ file ∷ []) effect
RunsVectors budget number (Err fault) file net names fetched effect = effect ≡ refused number tt (file_refusal file fault) (fetched ++ file ∷ [])

-- The sim records have a network, and the vectors are run on it.
pub record RunsNet (budget number : ℕ) (files : Files) (sim : SimFile) (file : List ℕ) (fetched : List (List ℕ)) (effect : FreeEffect) : Type 0 where
  pub net : Network
  pub names : List (List ℕ × ℕ)
  pub is_net : IsNetOf sim net names
  pub runs : RunsVectors budget number (text_in files file) file net names fetched effect

-- The network of the sim records would pass a limit.
pub record RefusesNet (number : ℕ) (sim : SimFile) (fetched : List (List ℕ)) (effect : FreeEffect) : Type 0 where
  pub limit : SimLimit
  pub passes : PassesNet sim limit
  pub is : effect ≡ refused number tt (too_many (sim_limit_word limit)) fetched

abbrev pub RunsRecords : ℕ → ℕ → Files → SimFile → List ℕ → List (List ℕ) → FreeEffect → Type 0
RunsRecords budget number files sim file fetched effect =
    RefusesNet number sim fetched effect ⊎ RunsNet budget number files sim file fetched effect

-- A text that is no sim text is refused.
abbrev pub RunsRead : ℕ → ℕ → Files → List ℕ → Result SimFile (At SimFault) → List ℕ → FreeEffect → Type 0
RunsRead budget number files source (Ok sim) file effect = RunsRecords budget number files sim file (source ∷ []) effect
RunsRead budget number files source (Err at) file effect = effect ≡ refused number tt (sim_refusal source at) (source ∷ [])

abbrev pub RunsSource : ℕ → ℕ → Files → List ℕ → Result (List ℕ) FetchFault → List ℕ → FreeEffect → Type 0
RunsSource budget number files source (Ok text) file effect = RunsRead budget number files source (sim_in text) file effect
RunsSource budget number files source (Err fault) file effect = effect ≡ refused number tt (file_refusal source fault) (source ∷ [])

-- It needs no technology.
abbrev pub SimrunMeans : ℕ → ℕ → Files → List ℕ → List ℕ → FreeEffect → Type 0
SimrunMeans budget number files name file effect =
    RunsSource budget number files (sim_file name) (text_in files (sim_file name)) (vec_file file) effect
