use Rattle.undo_log.proofs.CameLaws.{cells_come}
use Rattle.undo_log.proofs.laws.cells_may_come.Goals as goal

pub returns : goal.returns
returns c = cells_come
