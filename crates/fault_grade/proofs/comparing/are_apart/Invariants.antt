use Rattle.fault_grade.proofs.Common.{◌≡◌, false, length, take, list_any, zip, states_of, is_shown_apart}
use Rattle.fault_grade.proofs.comparing.are_apart.Given as goal

abbrev pub invariant-loop-named : goal.invariant-loop-named
invariant-loop-named l =
    list_any (λ both. is_shown_apart (states_of l.run) both.0 both.1) (take (length l.yielded) (zip l.asked l.seen)) ≡ false
