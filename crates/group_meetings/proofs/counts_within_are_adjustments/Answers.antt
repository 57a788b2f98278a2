use Rattle.group_meetings.proofs.AdjustmentLaws.{counts_are_adjustments}
use Rattle.group_meetings.proofs.counts_within_are_adjustments.Goals as goal

pub returns : goal.returns
returns c = counts_are_adjustments c.args.tech.now
