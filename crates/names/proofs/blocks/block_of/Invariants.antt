use Rattle.names.proofs.Common.{◌≡◌, ◌≤◌, ◌<◌, ℕ, tile_at}
use Rattle.names.specs.steps.Blocks.{IsWithinBlock}
use Rattle.names.proofs.blocks.block_of.Given as goal

abbrev pub invariant-loop-index : goal.invariant-loop-index
invariant-loop-index l = record {
  ends : l.block.end ≡ l.end;
  within : (k : ℕ) → l.start ≤ k → k < l.index → IsWithinBlock l.block (tile_at l.tiles k);
}
