-- What is run on the network of a circuit: a vector file, the same with each of its stuck faults, or the vectors of a stack.
use Rattle.std.specs.Prelude.{◌≡◌, ◌⊎◌, ◌<◌, ◌≤◌, ℕ, List, [], ◌∷◌, ◌++◌, length, if◌then◌else◌, All}
use Rattle.session_model.specs.declared.report.ReportLine.{ReportLine}
use Rattle.line_answers.specs.LineEffects.{reply}
use Rattle.line_answers.specs.Refusals.{refusal_line, too_many}
use Rattle.ext_model.specs.declared.circuits.Circuit.{Circuit}
use Rattle.sim_text.specs.declared.limits.SimLimit.TheVariants.{Switches}
use Rattle.sim_records.specs.declared.limits.TheConstants.{MOST_SWITCHES}
use Rattle.sim_records.specs.SimRecords.{sim_of}
use Rattle.switch_net.specs.declared.limits.TheConstants.{MOST_NODES}
use Rattle.switch_net.specs.Network.{Network}
use Rattle.sim_networks.specs.SimNetworks.{HasLetter, HasMoreNodesThan, HasNodeForEach, records_of}
use Rattle.vector_runs.specs.declared.replies.VecReply.TheVariants.{Unsettled}
use Rattle.stack_runs.specs.declared.outcomes.Outcome.{Outcome}
use Rattle.stack_runs.specs.Outcomes.{IsOutcome}
use Rattle.stack_runs.specs.Summaries.{summary_of, summary_text}
use Rattle.network_runs.specs.declared.network_runs.NetworkRun.{NetworkRun}
use Rattle.network_runs.specs.declared.network_runs.NetworkRun.TheVariants.{Grade, Vectors, Stack}
use Rattle.network_runs.specs.Grading.{TellsCoverage, preferred_names}
use Rattle.network_runs.specs.Refusals.{sim_limit_word}
use Rattle.network_runs.specs.Simulations.{IsNetOf, TellsNet, vector_line}

-- The sim records of the circuit have a network, unless there are too many switches: its transistors have letters that make switches, and
-- it has no more nodes than a network may have. The nodes of each such network are those of the circuit.
pub record CanBeSimulated (circuit : Circuit) : Type 0 where
  pub letters : All HasLetter (sim_of circuit).fets
  pub few_nodes : ¬ (HasMoreNodesThan MOST_NODES (records_of (sim_of circuit)))
  pub same_nodes : (net : Network) (names : List (List ℕ × ℕ)) → IsNetOf (sim_of circuit) net names → HasNodeForEach (preferred_names circuit) net names

-- ---- the stack of `generate`

-- what is told of the phase, where it did not settle
abbrev pub unsettled_line : Outcome → List ReportLine
unsettled_line outcome = if outcome.settled then [] else vector_line (Unsettled 1) ∷ []

-- the lines that tell what came of a stack
abbrev pub outcome_lines : ℕ → Circuit → Outcome → List ReportLine
outcome_lines n circuit outcome = unsettled_line outcome ++ reply (summary_text (summary_of n circuit outcome)) ∷ []

-- The vectors of the stack are run on the network of its circuit.
pub record TellsOutcome (budget n : ℕ) (circuit : Circuit) (lines : List ReportLine) : Type 0 where
  pub net : Network
  pub names : List (List ℕ × ℕ)
  pub is_net : IsNetOf (sim_of circuit) net names
  pub outcome : Outcome
  pub is_outcome : IsOutcome net names budget n outcome
  pub are : lines ≡ outcome_lines n circuit outcome

-- ---- any of them

-- What answers the run on the network of a circuit.
abbrev pub TellsOn : NetworkRun → ℕ → ℕ → Circuit → List ReportLine → Type 0
TellsOn (Vectors text) budget number circuit lines = TellsNet budget number (sim_of circuit) text lines
TellsOn (Grade cell text) budget number circuit lines = TellsCoverage budget number cell text circuit lines
TellsOn (Stack n) budget number circuit lines = TellsOutcome budget n circuit lines

-- There may be too many switches.
abbrev pub TellsCircuit : NetworkRun → ℕ → ℕ → Circuit → List ReportLine → Type 0
TellsCircuit run budget number circuit lines =
    ((MOST_SWITCHES < length (sim_of circuit).fets) × (lines ≡ refusal_line number (too_many (sim_limit_word Switches)) ∷ []))
    ⊎ ((length (sim_of circuit).fets ≤ MOST_SWITCHES) × TellsOn run budget number circuit lines)
