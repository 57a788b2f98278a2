use Rattle.sim_text.proofs.WrittenBack.{sim_in-sim_text}
use Rattle.sim_text.proofs.laws.written_circuits_are_read_back.Goals as goal

pub returns : goal.returns
returns c = sim_in-sim_text
