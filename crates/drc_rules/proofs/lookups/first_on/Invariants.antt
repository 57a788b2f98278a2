use Rattle.std.proofs.Common.{◌≡◌, length}
use Rattle.tech_draft.specs.Lookups.{first_on}
use Rattle.drc_rules.proofs.lookups.first_on.Given as goal

-- what is left answers what all answer
abbrev pub invariant-loop-rest : goal.invariant-loop-rest
invariant-loop-rest l = first_on l.tech l.plane l.rest ≡ first_on l.tech l.plane l.types

abbrev pub decreases-loop-rest : goal.decreases-loop-rest
decreases-loop-rest l = length l.rest
