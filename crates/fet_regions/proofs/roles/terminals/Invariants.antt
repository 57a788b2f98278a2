use Rattle.fet_regions.proofs.Common.{◌≡◌, map, range_with_len, is_terminal, ROWS}
use Rattle.fet_regions.proofs.roles.terminals.Given as goal

abbrev pub invariant-loop-channel : goal.invariant-loop-channel
invariant-loop-channel l = l.rows.items ≡ map (λ channel. map (is_terminal l.raw channel) (range_with_len 0 ROWS)) (range_with_len 0 l.channel)
