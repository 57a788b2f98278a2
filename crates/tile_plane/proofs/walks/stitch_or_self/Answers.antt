use Rattle.tile_plane.proofs.Common.{true≢false, sym}
use Rattle.tile_plane.proofs.BesideLaws.{stitch_taken}
use Rattle.tile_plane.proofs.WalkLaws.{goes_on_or_last}
use Rattle.tile_plane.proofs.walks.stitch_or_self.Goals as goal

pub returns : goal.returns
returns c =
    rw c.stitch.ensures (stitch_taken c.args.store.now c.args.id c.requires.partition c.requires.stitches c.requires.taken c.args.side _ c.get-tile.ensures
    (goes_on_or_last c.args.side _ (λ last. true≢false (sym (c.if-is_last.ensures.1 last)))))
