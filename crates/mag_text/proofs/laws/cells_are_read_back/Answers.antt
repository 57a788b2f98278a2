use Rattle.mag_text.proofs.CellsAgain.{cell_read_back}
use Rattle.mag_text.proofs.laws.cells_are_read_back.Goals as goal

pub returns : goal.returns
returns c = λ library cell text lawful below sound is. cell_read_back library lawful cell below sound text is
