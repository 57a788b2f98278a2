use Rattle.mag_text.proofs.ReadLabels.{says-written_label}
use Rattle.mag_text.proofs.ReadLines.{says-area, says-box, says-grid, says-transform, says-use}
use Rattle.mag_text.proofs.laws.written_lines_say_what_they_were_written_from.Goals as goal

pub returns : goal.returns
returns c = λ raw. record {
  area = says-area raw;
  box = says-box raw;
  grid = says-grid raw;
  transform = says-transform raw;
  name = says-use raw;
  label = says-written_label raw;
}
