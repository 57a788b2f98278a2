use Rattle.plain_records.proofs.Common.{◌≡◌, length, take, flat_map, plain_merges, capped}
use Rattle.plain_records.proofs.rows.merges_in.Given as goal

abbrev pub invariant-loop-row : goal.invariant-loop-row
invariant-loop-row l = l.count ≡ capped (length (flat_map plain_merges (take l.row-index l.rows)))
