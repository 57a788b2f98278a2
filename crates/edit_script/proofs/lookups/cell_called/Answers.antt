use Rattle.edit_script.proofs.Common.{sym}
use Rattle.edit_script.proofs.CellLaws.{found_there}
use Rattle.edit_script.proofs.lookups.cell_called.Goals as goal

pub returns-in-Some-clause-there : goal.returns-in-Some-clause-there
returns-in-Some-clause-there c = found_there c.args.library.now c.bytes.result.now c.in-Some.key (sym c.in-Some.ensures)
