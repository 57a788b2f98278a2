use Rattle.undo_log.proofs.LeadLaws.{versions_unique}
use Rattle.undo_log.proofs.laws.kept_versions_are_unique.Goals as goal

pub returns : goal.returns
returns c = versions_unique
