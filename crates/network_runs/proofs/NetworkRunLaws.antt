-- What is told of runs on the networks of circuits.
use Rattle.network_runs.proofs.Common.{◌≡◌, ℕ, List, [], ◌∷◌, ◌++◌, sym, subst, ReportLine, sim_of, Network, Unsettled, summary_of, summary_text}
use Rattle.network_runs.proofs.Common.{IsNetOf, vector_line, IsOfInside, reply, no_lines_inside, reply_inside}
use Rattle.std.proofs.Common.{Bool, true, false, cond}
use Rattle.ext_model.specs.declared.circuits.Circuit.{Circuit}
use Rattle.stack_runs.specs.declared.outcomes.Outcome.{Outcome}
use Rattle.stack_runs.specs.Outcomes.{IsOutcome}
use Rattle.network_runs.specs.NetworkRuns.{TellsOutcome, outcome_lines}

-- what came of the vectors is told
pub tells_outcome : (budget n : ℕ) (circuit : Circuit) (net : Network) (names : List (List ℕ × ℕ)) (outcome : Outcome) (lines : List ReportLine)
    → IsNetOf (sim_of circuit) net names → IsOutcome net names budget n outcome → lines ≡ outcome_lines n circuit outcome
    → TellsOutcome budget n circuit lines
tells_outcome budget n circuit net names outcome lines is is_outcome are = record {
  net = net;
  names = names;
  is_net = is;
  outcome = outcome;
  is_outcome = is_outcome;
  are = are;
}

-- the lines that tell it come from inside
pub outcome_inside : (n : ℕ) (circuit : Circuit) (outcome : Outcome) (lines : List ReportLine) → lines ≡ outcome_lines n circuit outcome
    → IsOfInside lines
outcome_inside n circuit outcome lines are = subst (λ (all : List ReportLine). IsOfInside all) (sym are) (step outcome.settled)
  where
    summary : List ℕ
    summary = summary_text (summary_of n circuit outcome)

    step : (settled : Bool) → IsOfInside (cond settled [] (vector_line (Unsettled 1) ∷ []) ++ reply summary ∷ [])
    step true = reply_inside summary [] no_lines_inside
    step false = let rest = reply_inside summary [] no_lines_inside in record { present = rest.present; fits = rest.fits }
