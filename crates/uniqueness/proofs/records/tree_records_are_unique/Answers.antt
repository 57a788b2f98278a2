use Rattle.uniqueness.proofs.SameTreeRecords.{tree_records_are_one}
use Rattle.uniqueness.proofs.records.tree_records_are_unique.Goals as goal

pub returns : goal.returns
returns c = tree_records_are_one
