use Rattle.tile_plane.proofs.Common.{sym, subst, AreSet, Contents, value_in, value_at}
use Rattle.tile_plane.specs.Contents.{IsReady}
use Rattle.tile_plane.specs.Sheets.{next_of}
use Rattle.tile_plane.proofs.SheetLaws.{change_made}
use Rattle.tile_plane.proofs.tile_planes.TilePlanePlane.commit.Goals as goal

pub returns : goal.returns
returns c =
    let pieces = c.args._pieces.now in
    let new = c.exchange.new.first.store in
    let ready = subst (λ (held : Contents). IsReady held pieces) (sym c.self.view_is) c.requires.ready in
    subst (λ (held : Contents). AreSet (value_in held) (value_at new) pieces) c.self.view_is
    (change_made c.self.inside.first.store new (next_of c.self.inside.second) pieces ready c.exchange.ensures.exchanged)
