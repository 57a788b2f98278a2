use Rattle.tile_plane.proofs.Common.{Right}
use Rattle.tile_plane.proofs.WalkLaws.{leads_at}
use Rattle.tile_plane.proofs.walks.right_at.Goals as goal

pub returns : goal.returns
returns c = leads_at Right c.args.store.now c.args.id _ _ c.ranges.y c.beside_at.ensures
