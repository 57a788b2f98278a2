use Rattle.plain_records.proofs.Common.{◌≡◌, take, flat_map, plain_merges}
use Rattle.plain_records.proofs.expansion.all_merges.Given as goal

abbrev pub invariant-loop-row : goal.invariant-loop-row
invariant-loop-row l = l.merges.items ≡ flat_map plain_merges (take l.row-index l.rows)
