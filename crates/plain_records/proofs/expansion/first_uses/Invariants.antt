use Rattle.plain_records.proofs.Common.{◌≡◌, map, take, first_use}
use Rattle.plain_records.proofs.expansion.first_uses.Given as goal

abbrev pub invariant-loop-used : goal.invariant-loop-used
invariant-loop-used l = l.firsts.items ≡ map first_use (take l.used-index l.uses)
