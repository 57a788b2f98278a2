-- What comes of a command is one.
use Rattle.uniqueness.proofs.Common.{◌≡◌, ◌⊎◌, inl, inr, sym, ◌∙◌, EditFault, IsForOneFault}
use Rattle.std.proofs.Common.{◌≢◌}
use Rattle.edit_script.specs.declared.faults.EditFault.TheVariants.{Memory}
use Rattle.uniqueness.specs.Refusals.{CommandsHaveOneOutcome}
use Rattle.uniqueness.proofs.CommandFaults.{one_refusal}
use Rattle.edit_script.specs.Editing.{editing_of}

-- faults that are not want of memory are one
one_told : (IsRefused : EditFault → Type 0) → IsForOneFault IsRefused → (told also : EditFault) → told ≢ Memory → also ≢ Memory
    → (told ≡ Memory) ⊎ IsRefused told → (also ≡ Memory) ⊎ IsRefused also → told ≡ also
one_told IsRefused one told also some more (inl lacks) q = absurd (some lacks)
one_told IsRefused one told also some more (inr p) (inl lacks) = absurd (more lacks)
one_told IsRefused one told also some more (inr p) (inr q) = one told also p q

-- what nothing refuses lacks memory where it is not done
lacks_memory : (IsRefused : EditFault → Type 0) (told : EditFault) → ((fault : EditFault) → IsRefused fault → ⊥)
    → (told ≡ Memory) ⊎ IsRefused told → told ≡ Memory
lacks_memory IsRefused told none (inl lacks) = lacks
lacks_memory IsRefused told none (inr refused) = absurd (none told refused)

pub one_outcome : (X : Type 0) → CommandsHaveOneOutcome X
one_outcome X = record {
  made = λ old new other before now later command done also p q. p.0 ∙ sym q.0;
  refused = λ old new other before now later command told also some more p q.
      one_told _ (one_refusal (editing_of old before) command) told also some more p.0 q.0;
  either = λ old new other before now later command done told p q. lacks_memory _ told p.1 q.0;
}
