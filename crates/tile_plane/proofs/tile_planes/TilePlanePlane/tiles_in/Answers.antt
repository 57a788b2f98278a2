use Rattle.tile_plane.proofs.Common.{subst, rules, AreTilesIn, Contents, value_in, value_at}
use Rattle.tile_plane.proofs.tile_planes.TilePlanePlane.tiles_in.Goals as goal

pub returns-clause-tiles : goal.returns-clause-tiles
returns-clause-tiles c =
    let tiles : AreTilesIn (value_at c.self.inside.first.store) c.args.area c.in_ok-tiles.tiles.items = search rules in
    subst (λ (held : Contents). AreTilesIn (value_in held) c.args.area c.in_ok-tiles.tiles.items) c.self.view_is tiles
