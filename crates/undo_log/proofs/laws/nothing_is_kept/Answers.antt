use Rattle.undo_log.proofs.LeadLaws.{nothing_kept}
use Rattle.undo_log.proofs.laws.nothing_is_kept.Goals as goal

pub returns : goal.returns
returns c = nothing_kept
