use Rattle.use_orders.proofs.Acyclic.{acyclic_by_rank}
use Rattle.use_orders.proofs.laws.rank_law.Goals as goal

pub returns : goal.returns
returns c = λ children rank root falls. acyclic_by_rank children rank root falls
