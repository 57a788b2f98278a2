use Rattle.group_meetings.proofs.GroupRegions.{regions_in_groups}
use Rattle.group_meetings.proofs.regions_are_in_groups.Goals as goal

pub returns : goal.returns
returns c = regions_in_groups c.args.tech.now
