use Rattle.group_meetings.proofs.AdjustmentLaws.{adjustments_counted}
use Rattle.group_meetings.proofs.adjustments_are_counted_within.Goals as goal

pub returns : goal.returns
returns c = adjustments_counted c.args.tech.now
