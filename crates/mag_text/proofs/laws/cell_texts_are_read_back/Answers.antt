use Rattle.mag_text.proofs.CellFits.{cell_text-read}
use Rattle.mag_text.proofs.laws.cell_texts_are_read_back.Goals as goal

pub returns : goal.returns
returns c = λ library cell text lawful below is. cell_text-read library lawful cell below text is
