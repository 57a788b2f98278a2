use Rattle.sim_text.proofs.RefusedTexts.{sim_in-refused}
use Rattle.sim_text.proofs.laws.texts_are_refused_at_their_first_faulty_line.Goals as goal

pub returns : goal.returns
returns c = sim_in-refused
