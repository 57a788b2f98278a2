use Rattle.switch_net.proofs.Unique.{one_value}
use Rattle.switch_net.proofs.laws.steady_value_law.Goals as goal

pub returns : goal.returns
returns c = λ net s v x y sound in_v a b. one_value net s sound v x y in_v a b
