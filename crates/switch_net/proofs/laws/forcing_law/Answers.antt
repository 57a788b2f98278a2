use Rattle.switch_net.proofs.Forcing.{one_forcing}
use Rattle.switch_net.proofs.laws.forcing_law.Goals as goal

pub returns : goal.returns
returns c = one_forcing
