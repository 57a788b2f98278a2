use Rattle.tech_model.proofs.Common.{◌≡◌, ◌-◌, ◌++◌, map, filter, range_with_len, types_of, are_within}
use Rattle.tech_model.proofs.rules.add_widenings.Given as goal

abbrev pub invariant-loop-t : goal.invariant-loop-t
invariant-loop-t l =
    l.fn.found.items ++ filter (are_within l.tech) (map (λ t. (l.s, t)) (types_of l.tech))
    ≡ l.found.items ++ filter (are_within l.tech) (map (λ t. (l.s, t)) (range_with_len l.t (l.end - l.t)))
