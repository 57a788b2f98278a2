use Rattle.tech_model.proofs.Common.{◌≡◌, ◌-◌, find, range_with_len, pairs_of, types_of, have_one_set}
use Rattle.tech_model.proofs.rules.first_of_one_set.Given as goal

abbrev pub invariant-loop-s : goal.invariant-loop-s
invariant-loop-s l =
    find (have_one_set l.tech) (pairs_of (types_of l.tech) (types_of l.tech))
    ≡ find (have_one_set l.tech) (pairs_of (range_with_len l.s (l.end - l.s)) (types_of l.tech))
