use Rattle.mag_text.proofs.Common.{◌≡◌, ◌+◌, ◌≤◌, length}
use Rattle.mag_text.specs.ScaleLines.{scale_line, scale_line_from}
use Rattle.mag_text.proofs.scale_lines.scale_line.Given as goal

abbrev pub invariant-loop-line : goal.invariant-loop-line
invariant-loop-line l = record {
  numbered : l.number + length l.line-iterator ≤ length l.text;
  rest : scale_line_from (l.number + 1) l.line-iterator ≡ scale_line l.text;
}
