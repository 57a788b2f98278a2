use Rattle.tech_file.proofs.Common.{◌≡◌, ◌+◌, length, lines_of, headings_of, headings_from, place_after, Between}
use Rattle.tech_file.proofs.outline.outline_of.Given as goal

abbrev pub invariant-loop-line : goal.invariant-loop-line
invariant-loop-line l = record {
  numbered : l.number + length l.line-iterator ≡ length (lines_of l.text);
  headings : headings_from l.headings.items (l.number + 1) l.place l.line-iterator ≡ headings_of (lines_of l.text);
  place : place_after l.place l.line-iterator ≡ place_after Between (lines_of l.text);
}
