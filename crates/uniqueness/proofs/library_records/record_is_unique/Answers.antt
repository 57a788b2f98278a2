use Rattle.uniqueness.proofs.OneRecord.{one_record}
use Rattle.uniqueness.proofs.library_records.record_is_unique.Goals as goal

pub returns : goal.returns
returns c = one_record c.args.library.now c.lawful.ensures c.args.cell.0 c.typed.ensures
