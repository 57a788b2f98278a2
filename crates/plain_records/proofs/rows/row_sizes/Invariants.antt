use Rattle.plain_records.proofs.Common.{◌≡◌, map, take, merges_in}
use Rattle.plain_records.proofs.rows.row_sizes.Given as goal

abbrev pub invariant-loop-ext : goal.invariant-loop-ext
invariant-loop-ext l = l.sizes.items ≡ map merges_in (take l.ext-index l.exts)
