use Rattle.uniqueness.proofs.SameNodes.{node_records_are_one}
use Rattle.uniqueness.proofs.own_records.node_records_are_unique.Goals as goal

pub returns : goal.returns
returns c = node_records_are_one
