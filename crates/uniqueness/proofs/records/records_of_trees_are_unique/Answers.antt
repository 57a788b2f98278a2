use Rattle.uniqueness.proofs.SameTreeRecords.{records_of_trees_are_one}
use Rattle.uniqueness.proofs.records.records_of_trees_are_unique.Goals as goal

pub returns : goal.returns
returns c = records_of_trees_are_one
