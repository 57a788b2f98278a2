use Rattle.ext_cache.proofs.RecordLaws.{agrees_none}
use Rattle.ext_cache.proofs.laws.no_records_agree.Goals as goal

pub returns : goal.returns
returns c = agrees_none
