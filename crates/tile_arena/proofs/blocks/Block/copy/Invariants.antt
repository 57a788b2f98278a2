use Rattle.tile_arena.proofs.Common.{◌≡◌, take}
use Rattle.tile_arena.proofs.blocks.Block.copy.Given as goal

abbrev pub invariant-loop-at : goal.invariant-loop-at
invariant-loop-at g l = l.copy ≡ take l.at l.self
