use Rattle.tech_model.proofs.RuleLaws.{rules_hold}
use Rattle.tech_model.proofs.tech.Tech.check.Goals as goal

pub invariant_of-result : goal.invariant_of-result
invariant_of-result c = rules_hold c.in_ok-lists.lists c.in_ok-check.ensures
