use Rattle.file_laws.proofs.WrittenCells.{cell_text_read}
use Rattle.file_laws.proofs.cif_texts.written_texts_are_read.Goals as goal

pub returns : goal.returns
returns c = λ library cell text lawful there is. cell_text_read library lawful cell there text is
