use Rattle.plain_records.proofs.Common.{◌≡◌, map, take, thin}
use Rattle.plain_records.proofs.expansion.thin_records.Given as goal

abbrev pub invariant-loop-ext : goal.invariant-loop-ext
invariant-loop-ext l = l.records.items ≡ map thin (take l.ext-index l.exts)
