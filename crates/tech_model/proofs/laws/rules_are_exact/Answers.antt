use Rattle.tech_model.proofs.RuleLaws.{rules_hold, no_rule_broken}
use Rattle.tech_model.proofs.laws.rules_are_exact.Goals as goal

pub returns : goal.returns
returns c = λ raw. (rules_hold raw, no_rule_broken raw)
