use Rattle.group_meetings.proofs.GroupRegions.{members_joined}
use Rattle.group_meetings.proofs.members_are_joined_by_regions.Goals as goal

pub returns : goal.returns
returns c = members_joined c.args.tech.now
