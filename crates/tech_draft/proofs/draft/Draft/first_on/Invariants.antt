use Rattle.tech_draft.proofs.Common.{◌≡◌, length, first_on}
use Rattle.tech_draft.proofs.draft.Draft.first_on.Given as goal

-- what is left answers what all answer
abbrev pub invariant-loop-rest : goal.invariant-loop-rest
invariant-loop-rest l = first_on l.self.raw l.plane l.rest ≡ first_on l.self.raw l.plane l.types

abbrev pub decreases-loop-rest : goal.decreases-loop-rest
decreases-loop-rest l = length l.rest
