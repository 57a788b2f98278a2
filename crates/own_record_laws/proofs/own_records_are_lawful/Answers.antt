use Rattle.own_record_laws.proofs.OwnLawful.{own_lawful}
use Rattle.own_record_laws.proofs.own_records_are_lawful.Goals as goal

pub returns : goal.returns
returns c = own_lawful
