use Rattle.mag_text.proofs.ReadText.{mag_in-mag_text}
use Rattle.mag_text.proofs.laws.written_cells_are_read_back.Goals as goal

pub returns : goal.returns
returns c = mag_in-mag_text
