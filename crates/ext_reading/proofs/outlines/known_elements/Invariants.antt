use Rattle.ext_reading.proofs.Common.{◌≡◌, [], fold, lines_of, with_line}
use Rattle.ext_reading.proofs.outlines.known_elements.Given as goal

-- what the lines that are left add is what all of them give
abbrev pub invariant-loop-line : goal.invariant-loop-line
invariant-loop-line l = fold (with_line l.arrays) l.uses l.line-iterator ≡ fold (with_line l.arrays) [] (lines_of l.text)
