use Rattle.tech_model.proofs.Common.{◌∙◌, sym, find-In}
use Rattle.tech_model.proofs.RuleLaws.{pair_types}
use Rattle.tech_model.proofs.rules.check_sets.Goals as goal

pub type_name-requires : goal.type_name-requires
type_name-requires c = (pair_types c.args.tech.now (c.in-Some.s, c.in-Some.t) (find-In _ _ _ (sym c.first_of_one_set.ensures ∙ c.in-Some.is))).0

pub type_name-requires-in-Some : goal.type_name-requires-in-Some
type_name-requires-in-Some c = (pair_types c.args.tech.now (c.in-Some.s, c.in-Some.t) (find-In _ _ _ (sym c.first_of_one_set.ensures ∙ c.in-Some.is))).1
