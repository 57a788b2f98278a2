use Rattle.names.proofs.Common.{nat_cmp, slice_cmp, get, text_at, region_found}
use Rattle.names.proofs.CountingLaws.{HasCounted}
use Rattle.names.proofs.counting.count_labels.Given as goal

abbrev pub invariant-loop-index : goal.invariant-loop-index
invariant-loop-index l = HasCounted (text_at l.labels) (region_found l.found) l.index (get (slice_cmp nat_cmp) l.firsts) l.named.items l.pairs.items
