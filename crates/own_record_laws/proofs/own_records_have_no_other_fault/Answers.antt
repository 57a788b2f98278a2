use Rattle.own_record_laws.proofs.NoOtherFaults.{no_other_fault}
use Rattle.own_record_laws.proofs.own_records_have_no_other_fault.Goals as goal

pub returns : goal.returns
returns c = no_other_fault
