use Rattle.finite_sets.specs.Chain.Chain.{stay}
use Rattle.finite_sets.proofs.Chains.{Chain-append, Chain-either_back}
use Rattle.finite_sets.proofs.chains_are_an_equivalence.Goals as goal

pub returns-clause-reflexive : goal.returns-clause-reflexive
returns-clause-reflexive g c = λ a. stay

pub returns-clause-symmetric : goal.returns-clause-symmetric
returns-clause-symmetric g c = λ a b way. Chain-either_back g.T.Things.step way

pub returns-clause-transitive : goal.returns-clause-transitive
returns-clause-transitive g c = λ a b d one two. Chain-append one two
