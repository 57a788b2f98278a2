use Rattle.tech_model.proofs.Common.{◌≡◌, ◌-◌, ◌++◌, filter, range_with_len, pairs_of, types_of, are_within, widenings}
use Rattle.tech_model.proofs.rules.widenings.Given as goal

abbrev pub invariant-loop-s : goal.invariant-loop-s
invariant-loop-s l = widenings l.tech ≡ l.found.items ++ filter (are_within l.tech) (pairs_of (range_with_len l.s (l.end - l.s)) (types_of l.tech))
