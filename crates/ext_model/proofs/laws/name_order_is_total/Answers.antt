use Rattle.ext_model.proofs.NameOrders.{no_later_reflexive, no_later_antisymmetric, no_later_transitive, no_later_total, name_cmp_exact}
use Rattle.ext_model.proofs.laws.name_order_is_total.Goals as goal

pub returns-clause-reflexive : goal.returns-clause-reflexive
returns-clause-reflexive c = no_later_reflexive

pub returns-clause-antisymmetric : goal.returns-clause-antisymmetric
returns-clause-antisymmetric c = no_later_antisymmetric

pub returns-clause-transitive : goal.returns-clause-transitive
returns-clause-transitive c = no_later_transitive

pub returns-clause-total : goal.returns-clause-total
returns-clause-total c = no_later_total

pub returns-clause-exact : goal.returns-clause-exact
returns-clause-exact c = name_cmp_exact
