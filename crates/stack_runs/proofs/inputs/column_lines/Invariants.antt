use Rattle.std.proofs.Common.{◌≡◌}
use Rattle.stack_runs.specs.StackVectors.{column_lines}
use Rattle.stack_runs.proofs.inputs.column_lines.Given as goal

abbrev pub invariant-loop-column : goal.invariant-loop-column
invariant-loop-column l = l.lines.items ≡ column_lines l.names l.column
