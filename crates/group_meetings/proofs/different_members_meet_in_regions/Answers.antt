use Rattle.group_meetings.proofs.GroupRegions.{different_meet}
use Rattle.group_meetings.proofs.different_members_meet_in_regions.Goals as goal

pub returns : goal.returns
returns c = different_meet c.args.tech.now
