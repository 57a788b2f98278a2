use Rattle.plain_records.proofs.Common.{◌≡◌, ◌++◌, map, range_with_len, plain_merge}
use Rattle.plain_records.proofs.merges.add_merges.Given as goal

-- the merges of lesser numbers are appended
abbrev pub invariant-loop-n : goal.invariant-loop-n
invariant-loop-n l = l.merges.items ≡ l.fn.merges.items ++ map (plain_merge l.row) (range_with_len 0 l.n)
