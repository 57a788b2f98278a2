use Rattle.cell_nodes.proofs.Common.{◌≡◌, ℕ, ◌<◌, length, slice_index, with_region, tile_at}
use Rattle.cell_nodes.proofs.groups.grouped.Given as goal

abbrev pub invariant-loop-tile : goal.invariant-loop-tile
invariant-loop-tile l = record {
  so_many : length l.grouped.items ≡ l.tile-index;
  each : (k : ℕ) → k < l.tile-index → tile_at l.grouped.items k ≡ with_region (tile_at l.tiles k) (slice_index l.numbers (tile_at l.tiles k).region);
}
