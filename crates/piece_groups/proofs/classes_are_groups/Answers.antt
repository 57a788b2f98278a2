use Rattle.piece_groups.proofs.MarkedGroups.{marks_tell_groups}
use Rattle.piece_groups.proofs.classes_are_groups.Goals as goal

pub returns : goal.returns
returns c = marks_tell_groups c.args.tech.now
