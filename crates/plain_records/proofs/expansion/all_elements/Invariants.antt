use Rattle.plain_records.proofs.Common.{◌≡◌, take, flat_map, plain_uses}
use Rattle.plain_records.proofs.expansion.all_elements.Given as goal

abbrev pub invariant-loop-used : goal.invariant-loop-used
invariant-loop-used l = l.elements.items ≡ flat_map plain_uses (take l.used-index l.uses)
