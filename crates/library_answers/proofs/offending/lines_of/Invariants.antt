use Rattle.std.proofs.Common.{◌≡◌, ◌++◌, drop, map}
use Rattle.library_answers.specs.Offending.{offending_line}
use Rattle.library_answers.proofs.offending.lines_of.Given as goal

-- the lines so far and those of the strips that are left are the lines of all
abbrev pub invariant-loop-strip : goal.invariant-loop-strip
invariant-loop-strip l =
    l.lines.items ++ map (offending_line l.tech l.cell) (drop l.strip-index l.squares) ≡ map (offending_line l.tech l.cell) l.squares
