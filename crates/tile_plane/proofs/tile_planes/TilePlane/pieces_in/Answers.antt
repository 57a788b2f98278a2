use Rattle.tile_plane.proofs.Common.{subst, Contents, value_in, ArePiecesIn}
use Rattle.tile_plane.proofs.tile_planes.TilePlane.pieces_in.Goals as goal

pub returns-clause-pieces : goal.returns-clause-pieces
returns-clause-pieces c =
    subst (λ (held : Contents). ArePiecesIn (value_in held) c.args.areas.now c.in_ok-pieces.pieces.items) c.self.view_is c.in_ok-pieces.ensures
