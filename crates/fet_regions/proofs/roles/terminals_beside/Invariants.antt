use Rattle.fet_regions.proofs.Common.{◌≡◌, map, range_with_len, is_terminal}
use Rattle.fet_regions.proofs.roles.terminals_beside.Given as goal

abbrev pub invariant-loop-kind : goal.invariant-loop-kind
invariant-loop-kind l = l.row.items ≡ map (is_terminal l.raw l.channel) (range_with_len 0 l.kind)
