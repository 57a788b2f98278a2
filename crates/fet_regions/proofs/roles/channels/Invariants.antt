use Rattle.fet_regions.proofs.Common.{◌≡◌, map, range_with_len, is_channel}
use Rattle.fet_regions.proofs.roles.channels.Given as goal

abbrev pub invariant-loop-kind : goal.invariant-loop-kind
invariant-loop-kind l = l.row.items ≡ map (is_channel l.raw) (range_with_len 0 l.kind)
