use Rattle.tile_arena.proofs.Common.{◌≡◌, ◌≤◌, length, take, vec_capacity}
use Rattle.tile_arena.proofs.block_lists.copy_of.Given as goal

abbrev pub invariant-loop-block : goal.invariant-loop-block
invariant-loop-block g l = record {
  copies : l.copies.items ≡ take l.block-index l.block-items;
  room : length l.block-items ≤ vec_capacity l.copies;
}
