use Rattle.own_record_laws.proofs.OwnMeanings.{own_meaning}
use Rattle.own_record_laws.proofs.own_records_mean_the_layout.Goals as goal

pub returns : goal.returns
returns c = own_meaning
