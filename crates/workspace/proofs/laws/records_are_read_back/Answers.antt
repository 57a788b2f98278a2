use Rattle.workspace.proofs.ReadableRecords.{record_is_readable}
use Rattle.workspace.proofs.laws.records_are_read_back.Goals as goal

pub returns : goal.returns
returns c cell ext below now = c.written_records_are_read_back.ensures ext (record_is_readable c.args.library.now c.lawful.ensures cell below ext now)
