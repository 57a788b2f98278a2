use Rattle.tree_circuits.proofs.NoOtherFaults.{tree_has_no_other_fault}
use Rattle.tree_circuits.proofs.tree_records_have_no_other_fault.Goals as goal

pub returns : goal.returns
returns c = tree_has_no_other_fault
