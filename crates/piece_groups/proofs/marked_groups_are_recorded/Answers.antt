use Rattle.piece_groups.proofs.RecordedGroups.{marked_groups_recorded}
use Rattle.piece_groups.proofs.marked_groups_are_recorded.Goals as goal

pub returns : goal.returns
returns c = marked_groups_recorded c.args.tech.now
