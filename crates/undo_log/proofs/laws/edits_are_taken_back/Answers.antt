use Rattle.undo_log.proofs.DesignerLaws.{taken_back_and_again}
use Rattle.undo_log.proofs.laws.edits_are_taken_back.Goals as goal

pub returns : goal.returns
returns c = taken_back_and_again
