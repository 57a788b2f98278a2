use Rattle.group_meetings.proofs.GroupRegions.{larger_groups_within}
use Rattle.group_meetings.proofs.members_of_larger_groups_are_within.Goals as goal

pub returns : goal.returns
returns c = larger_groups_within c.args.tech.now
