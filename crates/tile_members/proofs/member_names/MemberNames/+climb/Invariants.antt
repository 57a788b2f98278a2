use Rattle.tile_members.proofs.Common.{length}
use Rattle.tile_members.proofs.member_names.MemberNames.+climb.Given as goal

abbrev pub decreases-climb : goal.decreases-climb
decreases-climb l = length l.steps.now
