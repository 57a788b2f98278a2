use Rattle.std.proofs.Common.{◌≤◌, ◌+◌}
use Rattle.ground_tests.specs.declared.record_many.TheConstants.{ENTRIES}
use Rattle.ground_tests.proofs.record_many.filled.Given as goal

-- there is room for as many entries as are to come
abbrev pub invariant-loop-number : goal.invariant-loop-number
invariant-loop-number l = ENTRIES ≤ l.table.spare + l.number
