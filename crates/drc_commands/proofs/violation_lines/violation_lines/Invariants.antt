use Rattle.std.proofs.Common.{◌≡◌, ◌++◌, drop, map}
use Rattle.drc_commands.specs.CommandDrc.{violation_line}
use Rattle.drc_commands.proofs.violation_lines.violation_lines.Given as goal

-- the lines so far and those of the strips that are left are the lines of all
abbrev pub invariant-loop-violation : goal.invariant-loop-violation
invariant-loop-violation l =
    l.lines.items ++ map (violation_line l.tech l.cell) (drop l.violation-index l.found) ≡ map (violation_line l.tech l.cell) l.found
