use Rattle.cell_nodes.proofs.Common.{◌≡◌, ◌<◌, ℕ, length, get_or, NodeRec, NamedNode, IsRecordOf, row_at}
use Rattle.cell_nodes.proofs.nodes.records_of.Given as goal

abbrev pub invariant-loop-k : goal.invariant-loop-k
invariant-loop-k l = record {
  so_many : length l.records.items ≡ l.k;
  each : (j : ℕ) (node : NamedNode) (rec : NodeRec) → j < l.k → IsRecordOf l.tech (get_or l.nodes j node) (row_at l.rows j) (get_or l.records.items j rec);
}
