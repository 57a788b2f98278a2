use Rattle.uniqueness.proofs.SameFets.{fet_records_are_one}
use Rattle.uniqueness.proofs.own_records.fet_records_are_unique.Goals as goal

pub returns : goal.returns
returns c = fet_records_are_one
