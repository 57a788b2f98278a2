-- Faults in their order.
use Rattle.cell_library.proofs.Common.{◌≡◌, ◌<◌, ◌⊎◌, ℕ, arith, inl, inr, Ok, OnOk, IfErr, LibFault, MOST_EDITS, HasFaultOrLacksMemory}
use Rattle.std.specs.Prelude.{Result, Err, OnErr}
use Rattle.cell_library.specs.Refusals.{Answers, AnswersOrLacksMemory}

-- where the first condition doesn't hold, what comes later may be told otherwise
pub first_of_map : {P Q A B : Type 0} → ((P → ⊥) → A → B) → ((P × Q) ⊎ ((P → ⊥) × A)) → (P × Q) ⊎ ((P → ⊥) × B)
first_of_map change (inl here) = inl here
first_of_map change (inr later) = inr (later.0, change later.0 later.1)

-- a condition that doesn't hold is no fault
pub not_first : {P Q A : Type 0} → (P → ⊥) → (A → ⊥) → ((P × Q) ⊎ ((P → ⊥) × A)) → ⊥
not_first fails none (inl here) = fails here.0
not_first fails none (inr later) = none later.1

-- where memory was wanting it was
pub or_memory_map : {M A B : Type 0} → (A → B) → (M ⊎ A) → M ⊎ B
or_memory_map change (inl memory) = inl memory
or_memory_map change (inr fault) = inr (change fault)

-- the same, where what comes later may lack memory
pub first_of_or : {P Q M A B : Type 0} → ((P → ⊥) → A → M ⊎ B) → ((P × Q) ⊎ ((P → ⊥) × A)) → M ⊎ ((P × Q) ⊎ ((P → ⊥) × B))
first_of_or change (inl here) = inr (inl here)
first_of_or change (inr later) = elim (change later.0 later.1) [ inl memory ↦ inl memory | inr other ↦ inr (inr (later.0, other)) ]

-- ---- answers

-- edits below the limit are not at it
pub not_full : (edits : ℕ) → edits < MOST_EDITS → edits ≡ MOST_EDITS → ⊥
not_full edits below full = absurd (omega arith)

-- what was answered is one of the two
pub ok_or_err : {T E : Type 0} (P Q : Type 0) (r : Result T E) → OnOk r P → OnErr r Q → P ⊎ Q
ok_or_err P Q (Ok x) ok err = inl ok
ok_or_err P Q (Err e) ok err = inr err

pub both_err : {T E : Type 0} (P Q : Type 0) (r : Result T E) → OnErr r P → OnErr r Q → OnErr r (P × Q)
both_err P Q (Ok x) one two = tt
both_err P Q (Err e) one two = (one, two)

-- a call answers as it should where what it does excludes its faults, and the fault that it tells is one of them
pub answers_only : {T : Type 0} (P : Type 0) (R F : LibFault → Type 0) (r : Result T LibFault) → OnOk r P → (P → (fault : LibFault) → R fault → ⊥) → IfErr r F
    → ((told : LibFault) → F told → R told) → Answers R r
answers_only P R F (Ok x) done none fault tells = none done
answers_only P R F (Err told) done none fault tells = tells told fault

-- and so a call that takes memory
pub answers_memory : {T : Type 0} (P : Type 0) (R F : LibFault → Type 0) (r : Result T LibFault) → OnOk r P → (P → (fault : LibFault) → R fault → ⊥) → IfErr r F
    → ((told : LibFault) → F told → HasFaultOrLacksMemory R told) → AnswersOrLacksMemory R r
answers_memory P R F (Ok x) done none fault tells = none done
answers_memory P R F (Err told) done none fault tells = tells told fault

-- what holds anyway holds of a refusal
pub on_any_err : {T E : Type 0} (P : Type 0) (r : Result T E) → P → OnErr r P
on_any_err P (Ok x) holds = tt
on_any_err P (Err e) holds = holds

-- and so of an answer
pub on_any_ok : {T E : Type 0} (P : Type 0) (r : Result T E) → P → OnOk r P
on_any_ok P (Ok x) holds = holds
on_any_ok P (Err e) holds = tt
