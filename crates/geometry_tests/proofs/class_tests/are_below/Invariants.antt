use Rattle.std.proofs.Common.{ℕ, ◌<◌, get_or}
use Rattle.geometry_tests.proofs.class_tests.are_below.Given as goal

abbrev pub invariant-loop-pair : goal.invariant-loop-pair
invariant-loop-pair l = (k : ℕ) (d : ℕ × ℕ) → k < l.pair-index → ((get_or l.pairs k d).0 < l.count) × ((get_or l.pairs k d).1 < l.count)
