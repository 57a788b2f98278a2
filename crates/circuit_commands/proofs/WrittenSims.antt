-- Sim files by their texts.
use Rattle.circuit_commands.proofs.Common.{◌≡◌, ◌≤◌, ◌++◌, ◌∷◌, [], ℕ, List, inl, inr, refl, sym, ◌∙◌, ap, subst, codes, ReportLine, reply, Circuit}
use Rattle.circuit_commands.proofs.Common.{Written, Stored, Passed}
use Rattle.std.proofs.Common.{◌⊎◌, length}
use Rattle.session_model.specs.declared.answer.Store.{Store}
use Rattle.sim_text.specs.declared.faults.SimFault.{SimFault}
use Rattle.sim_text.specs.declared.faults.SimFault.TheVariants.{Memory}
use Rattle.sim_text.specs.declared.limits.TheConstants.{LONGEST_TEXT}
use Rattle.sim_text.specs.WrittenTexts.{IsTooLong, sim_text}
use Rattle.sim_records.specs.declared.limits.TheConstants.{MOST_SWITCHES}
use Rattle.sim_records.specs.SimRecords.{HasTooManySwitches, sim_of}
use Rattle.circuit_commands.specs.steps.FaultLimits.{fault_limit}
use Rattle.circuit_commands.specs.Circuits.{IsSimWritten, bare_lines, counts_text}

-- the line that tells of a sim file
abbrev told : List ℕ → ℕ → ℕ → ReportLine
told name nodes switches = reply (counts_text (codes "sim ") name nodes switches (codes " switches"))

-- the sim text of a circuit in its file is what is written of it
pub sim_written : (name : List ℕ) (circuit : Circuit) (nodes switches : ℕ) (bare : List ReportLine) (bytes : List ℕ) (written : Written)
    → written ≡ Stored (bare ++ reply (counts_text (codes "sim ") name nodes switches (codes " switches")) ∷ [])
    (record { name = name ++ codes ".sim"; bytes = bytes })
    → bytes ≡ sim_text (sim_of circuit) → switches ≡ length (sim_of circuit).fets → switches ≤ MOST_SWITCHES → length bytes ≤ LONGEST_TEXT
    → bare ≡ bare_lines circuit.fets → nodes ≡ length circuit.nodes → IsSimWritten name circuit written
sim_written name circuit nodes switches bare bytes written is text count few within bares many =
    let bare_are = bare_lines circuit.fets in
    subst (λ (w : Written). IsSimWritten name circuit w) (sym is) (
      subst (λ (n : ℕ). n ≤ MOST_SWITCHES) count few,
      subst (λ (t : List ℕ). length t ≤ LONGEST_TEXT) text within,
      ap (λ (l : List ReportLine). l ++ told name nodes switches ∷ []) bares
          ∙ ap (λ (n : ℕ). bare_are ++ told name n switches ∷ []) many
          ∙ ap (λ (n : ℕ). bare_are ++ told name (length circuit.nodes) n ∷ []) count,
      λ i. record { name = name ++ codes ".sim"; bytes = text i },
    )

-- a text that is not made, for some other reason than want of memory
pub not_written : (name : List ℕ) (circuit : Circuit) (fault : SimFault) → (fault ≡ Memory → ⊥)
    → (fault ≡ Memory) ⊎ (HasTooManySwitches fault circuit
    ⊎ ((length (sim_of circuit).fets ≤ MOST_SWITCHES) × IsTooLong fault (sim_text (sim_of circuit))))
    → IsSimWritten name circuit (Passed (fault_limit fault))
not_written name circuit fault some (inl memory) = absurd (some memory)
not_written name circuit fault some (inr (inl many)) =
    subst (λ (f : SimFault). IsSimWritten name circuit (Passed (fault_limit f))) (sym many.0) (inl (refl, many.1))
not_written name circuit fault some (inr (inr long)) =
    subst (λ (f : SimFault). IsSimWritten name circuit (Passed (fault_limit f))) (sym long.1.0) (inr (refl, long.0, long.1.1))
