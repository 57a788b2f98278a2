use Rattle.cell_records.proofs.Common.{◌≡◌, ℕ, ℤ, ◌-ℤ◌, take, sum_on}
use Rattle.cell_records.proofs.fet_records.gate_length.Given as goal

abbrev pub invariant-loop-terminal : goal.invariant-loop-terminal
invariant-loop-terminal l = l.left ≡ l.fet.perimeter -ℤ sum_on (λ (t : ℕ × ℤ). t.1) (take l.terminal-index l.fet.terminals)
