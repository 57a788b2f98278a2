use Rattle.switch_net.proofs.Forcing.{steady_or_x}
use Rattle.switch_net.proofs.laws.unsettled_phase_law.Goals as goal

pub returns : goal.returns
returns c = λ net s budget n t a. steady_or_x net a.2.last t a.1 a.2.forced
