use Rattle.tile_arena.proofs.Common.{[], refl, ◌∙◌, arith, BLOCK_SIZE}
use Rattle.tile_arena.proofs.BegunLaws.{begun_with-nil}
use Rattle.tile_arena.proofs.BlockLaws.{block_of}
use Rattle.tile_arena.proofs.blocks.Block.new.Goals as goal

pub invariant_of-result : goal.invariant_of-result
invariant_of-result g c =
    let made = c.in_ok-start.ensures in
    (block_of (record { start = c.in_ok-start.start; len = 0; places = c.in_ok-start.places; title = c.in_ok-start.title; alloc = c.args.alloc }) []
    made.0 made.2 made.3 made.4 (made.1 ∙ begun_with-nil BLOCK_SIZE) refl (omega arith)).0
