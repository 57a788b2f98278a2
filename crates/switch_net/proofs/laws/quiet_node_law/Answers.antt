use Rattle.switch_net.proofs.Vicinities.{keeps_value}
use Rattle.switch_net.proofs.laws.quiet_node_law.Goals as goal

pub returns : goal.returns
returns c = λ net s t seeds v sound step holds storage outside.
    keeps_value net sound s t step _ holds v storage (λ n seed joined. outside (record { seed = n; is_seed = seed; joined = joined }))
