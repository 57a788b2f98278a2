use Rattle.tile_plane.proofs.Common.{Below}
use Rattle.tile_plane.proofs.WalkLaws.{leads_at}
use Rattle.tile_plane.proofs.walks.below_at.Goals as goal

pub returns : goal.returns
returns c = leads_at Below c.args.store.now c.args.id _ _ c.ranges.x c.beside_at.ensures
