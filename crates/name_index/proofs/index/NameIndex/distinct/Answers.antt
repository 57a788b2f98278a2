use Rattle.std.proofs.Common.{subst}
use Rattle.finite_sets.specs.Lists.{Distinct}
use Rattle.name_index.proofs.index.NameIndex.distinct.Goals as goal

pub returns : goal.returns
returns c = subst Distinct c.self.view_is c.self.invariant
