-- The first fault of a chain is one: each condition holds or does not, and the later faults are looked at in the one case alone.
use Rattle.uniqueness.proofs.Common.{◌≡◌, inl, inr, sym, ◌∙◌, Option, Some, None, MatchOption, LibFault, FirstOf, IsForOneFault}
use Rattle.edit_script.specs.CellLibrary.Refusals.{NothingElse}

pub nothing_else : IsForOneFault NothingElse
nothing_else told other p q = absurd p

-- a fault is one
pub this_fault : {Fault : Type 0} (fault : Fault) → IsForOneFault (λ told. told ≡ fault)
this_fault fault told other p q = p ∙ sym q

-- where the later faults are for one, so is the chain that begins with this
pub first_of : (Condition : Type 0) (fault : LibFault) (Later : LibFault → Type 0) → IsForOneFault Later → IsForOneFault (FirstOf Condition fault Later)
first_of Condition fault Later one told other (inl p) (inl q) = p.1 ∙ sym q.1
first_of Condition fault Later one told other (inl p) (inr q) = absurd (q.0 p.0)
first_of Condition fault Later one told other (inr p) (inl q) = absurd (p.0 q.0)
first_of Condition fault Later one told other (inr p) (inr q) = one told other p.1 q.1

-- the same of what is looked up: nothing, or something that is refused for one fault
pub of_found : {X Fault : Type 0} (found : Option X) (Absent : Fault → Type 0) (IsRefused : X → Fault → Type 0) → IsForOneFault Absent
    → ((x : X) → IsForOneFault (IsRefused x)) → IsForOneFault (λ told. MatchOption found (Absent told) (λ x. IsRefused x told))
of_found None Absent IsRefused one each = one
of_found (Some x) Absent IsRefused one each = each x
