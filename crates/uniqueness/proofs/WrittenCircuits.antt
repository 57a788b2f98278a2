-- What is written of a circuit.
use Rattle.uniqueness.proofs.Common.{◌≡◌, inl, inr, ℕ, List, sym, ap, ◌∙◌, arith, ReportLine, Circuit, Written}
use Rattle.session_model.specs.declared.answer.Store.{Store}
use Rattle.circuit_commands.specs.declared.circuits.CircuitFile.{CircuitFile}
use Rattle.circuit_commands.specs.declared.circuits.CircuitFile.TheVariants.{Flat, Sim}
use Rattle.circuit_commands.specs.declared.circuits.Written.TheVariants.{Passed, Stored}
use Rattle.circuit_commands.specs.Circuits.{IsFlatWritten, IsSimWritten, IsWritten}

same_stored : (lines others : List ReportLine) (store next : Store) → lines ≡ others → store ≡ next → Stored lines store ≡ Stored others next
same_stored lines others store next one two = λ i. Stored (one i) (two i)

same_flat : (cell : List ℕ) (circuit : Circuit) (written other : Written) → IsFlatWritten cell circuit written → IsFlatWritten cell circuit other
    → written ≡ other
same_flat cell circuit (Stored lines store) (Stored others next) p q = same_stored lines others store next (p.1 ∙ sym q.1) (p.2 ∙ sym q.2)
same_flat cell circuit (Stored lines store) (Passed limit) p q = absurd (omega (arith, p.0, q.1))
same_flat cell circuit (Passed limit) (Stored lines store) p q = absurd (omega (arith, q.0, p.1))
same_flat cell circuit (Passed limit) (Passed other) p q = ap Passed (p.0 ∙ sym q.0)

pub same_sim : (cell : List ℕ) (circuit : Circuit) (written other : Written) → IsSimWritten cell circuit written → IsSimWritten cell circuit other
    → written ≡ other
same_sim cell circuit (Stored lines store) (Stored others next) p q = same_stored lines others store next (p.2 ∙ sym q.2) (p.3 ∙ sym q.3)
same_sim cell circuit (Stored lines store) (Passed limit) p (inl q) = absurd (omega (arith, p.0, q.1))
same_sim cell circuit (Stored lines store) (Passed limit) p (inr q) = absurd (omega (arith, p.1, q.2))
same_sim cell circuit (Passed limit) (Stored lines store) (inl p) q = absurd (omega (arith, q.0, p.1))
same_sim cell circuit (Passed limit) (Stored lines store) (inr p) q = absurd (omega (arith, q.1, p.2))
same_sim cell circuit (Passed limit) (Passed other) (inl p) (inl q) = ap Passed (p.0 ∙ sym q.0)
same_sim cell circuit (Passed limit) (Passed other) (inl p) (inr q) = absurd (omega (arith, p.1, q.1))
same_sim cell circuit (Passed limit) (Passed other) (inr p) (inl q) = absurd (omega (arith, q.1, p.1))
same_sim cell circuit (Passed limit) (Passed other) (inr p) (inr q) = ap Passed (p.0 ∙ sym q.0)

-- one thing is written into a file of each kind
pub same_written : (file : CircuitFile) (cell : List ℕ) (circuit : Circuit) (written other : Written) → IsWritten file cell circuit written
    → IsWritten file cell circuit other → written ≡ other
same_written Flat cell circuit written other p q = same_flat cell circuit written other p q
same_written Sim cell circuit written other p q = same_sim cell circuit written other p q
