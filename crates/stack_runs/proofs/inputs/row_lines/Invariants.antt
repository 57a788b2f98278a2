use Rattle.std.proofs.Common.{◌≡◌}
use Rattle.stack_runs.specs.StackVectors.{row_lines}
use Rattle.stack_runs.proofs.inputs.row_lines.Given as goal

abbrev pub invariant-loop-row : goal.invariant-loop-row
invariant-loop-row l = l.lines.items ≡ row_lines l.names l.row
