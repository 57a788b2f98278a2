use Rattle.measures.proofs.Common.{◌≡◌, ◌<◌, ℕ, length, get_or, [], pairs_at}
use Rattle.measures.proofs.tables.measure_tiles.Given as goal

abbrev pub invariant-loop-region : goal.invariant-loop-region
invariant-loop-region l = record {
  so_many : length l.rows.items ≡ l.region;
  each : (k : ℕ) → k < l.region → (get_or l.rows.items k (record { pairs = [] })).pairs ≡ pairs_at k l.columns.items;
}
