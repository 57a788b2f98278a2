use Rattle.tile_arena.proofs.BlockLaws.{length-held}
use Rattle.tile_arena.proofs.blocks.Block.drop.Goals as goal

pub deallocate-requires : goal.deallocate-requires
deallocate-requires g c =
    let is = c.self.invariant in
    (is.here, length-held c.self.inside is, is.titled, is.whole, is.freed_by)
