use Rattle.sim_text.proofs.SpelledTexts.{sim_in-spelled}
use Rattle.sim_text.proofs.laws.texts_are_read_as_what_they_spell.Goals as goal

pub returns : goal.returns
returns c = sim_in-spelled
