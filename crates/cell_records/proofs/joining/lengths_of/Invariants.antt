use Rattle.cell_records.proofs.Common.{◌≡◌, ℕ, take, get, nat_cmp, length_told}
use Rattle.cell_records.proofs.joining.lengths_of.Given as goal

abbrev pub invariant-loop-terminal : goal.invariant-loop-terminal
invariant-loop-terminal l = (number : ℕ) → get nat_cmp l.lengths number ≡ length_told l.numbers (take l.terminal-index l.terminals) number
