use Rattle.tile_plane.proofs.Common.{value_at}
use Rattle.tile_plane.specs.Sheets.{AreSettable}
use Rattle.tile_plane.proofs.SetLaws.{set_same}
use Rattle.tile_plane.proofs.SheetLaws.{change_ready}
use Rattle.tile_plane.proofs.tile_planes.TilePlanePlane.reserve.Goals as goal

pub invariant_of-self-2 : goal.invariant_of-self-2
invariant_of-self-2 c =
    let tiles = c.self.inside.first.store in
    let base = c.in_ok-base.base.store in
    let next = c.in_ok-next.next in
    let pieces = c.args.pieces.now in
    let set = set_same (value_at tiles) (value_at base) (value_at next.store) pieces c.in_ok-base.ensures.same c.in_ok-next.ensures.set in
    let settable : AreSettable pieces = record { proper = c.requires.proper; near = c.requires.near; apart = c.requires.apart } in
    record {
      sheet = c.self.invariant.sheet;
      other = change_ready tiles next c.in_ok-again.again pieces c.in_ok-next.ensures.sheet (record { settable = settable; set = set }) c.in_ok-again.ensures;
    }
