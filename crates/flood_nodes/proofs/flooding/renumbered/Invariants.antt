use Rattle.flood_nodes.proofs.Common.{◌≡◌, ℕ, ◌<◌, length, slice_index, with_region, tile_at}
use Rattle.flood_nodes.proofs.flooding.renumbered.Given as goal

abbrev pub invariant-loop-place : goal.invariant-loop-place
invariant-loop-place l = record {
  so_many : length l.numbered.items ≡ l.place;
  each : (k : ℕ) → k < l.place → tile_at l.numbered.items k ≡ with_region (tile_at l.tiles k) (slice_index l.labels k);
}
