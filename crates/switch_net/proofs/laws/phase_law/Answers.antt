use Rattle.switch_net.proofs.Phases.{one_count, one_phase}
use Rattle.switch_net.proofs.laws.phase_law.Goals as goal

pub returns : goal.returns
returns c = λ net s budget done other n m rounds more t u sound len a r b q.
    let same = one_phase net sound s len budget done other n m t u a b in
    (same.0, same.1, one_count net sound s len budget done other n m rounds more t u a r b q, same.2)
