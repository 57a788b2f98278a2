use Rattle.group_meetings.proofs.RecordedMembers.{recorded_have}
use Rattle.group_meetings.proofs.recorded_parts_have_members.Goals as goal

pub returns : goal.returns
returns c = recorded_have c.args.tech.now
