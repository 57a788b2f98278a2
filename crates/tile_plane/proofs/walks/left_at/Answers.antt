use Rattle.tile_plane.proofs.Common.{Left}
use Rattle.tile_plane.proofs.WalkLaws.{leads_at}
use Rattle.tile_plane.proofs.walks.left_at.Goals as goal

pub returns : goal.returns
returns c = leads_at Left c.args.store.now c.args.id _ _ c.ranges.y c.beside_at.ensures
