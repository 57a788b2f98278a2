use Rattle.drc_check.specs.Violations.{Violates}
use Rattle.drc_check.proofs.ViolationLaws.{one_list_of_strips}
use Rattle.drc_check.proofs.laws.violations_are_unique.Goals as goal

pub returns : goal.returns
returns c raw tree rules found others is too = one_list_of_strips (Violates raw tree) 1 rules found others is too
