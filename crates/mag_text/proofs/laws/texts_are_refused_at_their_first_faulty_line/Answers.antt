use Rattle.mag_text.proofs.RefusedTexts.{mag_in-refused}
use Rattle.mag_text.proofs.laws.texts_are_refused_at_their_first_faulty_line.Goals as goal

pub returns : goal.returns
returns c = mag_in-refused
