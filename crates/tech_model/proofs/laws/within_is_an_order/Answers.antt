use Rattle.tech_model.proofs.TypeLaws.{within_self}
use Rattle.tech_model.proofs.WithinLaws.{within_trans, within_antisym}
use Rattle.tech_model.proofs.laws.within_is_an_order.Goals as goal

pub returns : goal.returns
returns c = λ raw law. (within_self raw, within_trans raw law, within_antisym raw)
