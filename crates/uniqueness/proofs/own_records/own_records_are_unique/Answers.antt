use Rattle.uniqueness.proofs.SameOwnRecords.{own_records_are_one}
use Rattle.uniqueness.proofs.own_records.own_records_are_unique.Goals as goal

pub returns : goal.returns
returns c = own_records_are_one
