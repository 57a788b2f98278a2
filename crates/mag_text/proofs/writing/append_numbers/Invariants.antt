use Rattle.mag_text.proofs.Common.{◌≡◌, ◌++◌, drop, numbers_behind_blanks}
use Rattle.mag_text.proofs.writing.append_numbers.Given as goal

abbrev pub invariant-loop-number : goal.invariant-loop-number
invariant-loop-number l =
    l.out.items ++ numbers_behind_blanks (drop l.number-index l.numbers) ≡ l.initial.out.items ++ numbers_behind_blanks l.numbers
