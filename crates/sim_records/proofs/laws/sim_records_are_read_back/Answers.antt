use Rattle.sim_records.proofs.WrittenRecords.{sim_of-read_back}
use Rattle.sim_records.proofs.laws.sim_records_are_read_back.Goals as goal

pub returns : goal.returns
returns c = sim_of-read_back
