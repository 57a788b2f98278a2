use Rattle.uniqueness.proofs.SameMerges.{group_merges_are_one}
use Rattle.uniqueness.proofs.records.group_merges_are_unique.Goals as goal

pub returns : goal.returns
returns c = group_merges_are_one
