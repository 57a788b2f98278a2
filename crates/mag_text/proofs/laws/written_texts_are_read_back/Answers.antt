use Rattle.mag_text.proofs.StripLaws.{read-written}
use Rattle.mag_text.proofs.laws.written_texts_are_read_back.Goals as goal

pub returns : goal.returns
returns c = read-written
