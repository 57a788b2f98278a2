use Rattle.tile_members.proofs.RecordedGroups.{records_tell}
use Rattle.tile_members.proofs.records_tell_groups.Goals as goal

pub returns : goal.returns
returns c = records_tell c.args.tech.now
