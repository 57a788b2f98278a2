-- Lines of circuits, for which no shelf has to answer.
use Rattle.circuit_commands.proofs.Common.{ℕ, List, [], ◌∷◌, ◌++◌, refl, sym, subst, ReportLine, Circuit, IsOfInside, reply, Written, Stored, Passed}
use Rattle.std.proofs.Common.{Bool, true, false, cond, length}
use Rattle.std.specs.Prelude.{nat_lt}
use Rattle.ext_model.specs.declared.records.FetRec.{FetRec}
use Rattle.line_answers.proofs.InsideLaws.{no_lines_inside, reply_inside}
use Rattle.circuit_commands.specs.declared.circuits.CircuitFile.{CircuitFile}
use Rattle.circuit_commands.specs.declared.circuits.CircuitFile.TheVariants.{Flat, Sim}
use Rattle.circuit_commands.specs.Circuits.{IsWritten, bare_line, bare_lines, lines_of, sim_reply}

-- those of transistors without terminals, and what is behind them
bare_inside : (fets : List FetRec) (rest : List ReportLine) → IsOfInside rest → IsOfInside (bare_lines fets ++ rest)
bare_inside [] rest there = there
bare_inside (fet ∷ fets) rest there = step (nat_lt 0 (length fet.terminals)) (bare_inside fets rest there)
  where
    step : (some : Bool) → IsOfInside (bare_lines fets ++ rest) → IsOfInside ((cond some [] (bare_line fet ∷ []) ++ bare_lines fets) ++ rest)
    step true inside = inside
    step false inside = reply_inside _ _ inside

-- those of what is written of a circuit
pub written_inside : (file : CircuitFile) (number : ℕ) (name : List ℕ) (circuit : Circuit) (written : Written) → IsWritten file name circuit written
    → IsOfInside (lines_of number written)
written_inside file number name circuit (Passed limit) is = record { present = refl; fits = refl }
written_inside Flat number name circuit (Stored lines store) is =
    subst (λ (all : List ReportLine). IsOfInside all) (sym is.1) (reply_inside _ _ no_lines_inside)
written_inside Sim number name circuit (Stored lines store) is =
    subst (λ (all : List ReportLine). IsOfInside all) (sym is.2)
    (bare_inside circuit.fets (reply (sim_reply name circuit) ∷ []) (reply_inside _ _ no_lines_inside))
