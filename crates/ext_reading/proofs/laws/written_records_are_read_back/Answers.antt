use Rattle.ext_reading.proofs.WrittenBack.{read_back}
use Rattle.ext_reading.proofs.laws.written_records_are_read_back.Goals as goal

pub returns : goal.returns
returns c = read_back
