use Rattle.tile_members.proofs.WholeTiles.{whole_tiles}
use Rattle.tile_members.proofs.members_have_whole_tiles.Goals as goal

pub returns : goal.returns
returns c = whole_tiles c.args.tech.now
