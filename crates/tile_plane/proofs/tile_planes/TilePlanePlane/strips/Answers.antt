use Rattle.tile_plane.proofs.Common.{subst, HasValue, IsStrips, Contents, value_in}
use Rattle.tile_plane.proofs.tile_planes.TilePlanePlane.strips.Goals as goal

pub returns-clause-strips : goal.returns-clause-strips
returns-clause-strips c =
    subst (λ (held : Contents). IsStrips (HasValue (value_in held) c.args.value) c.in_ok-strips.strips.items) c.self.view_is c.in_ok-strips.ensures.strips
