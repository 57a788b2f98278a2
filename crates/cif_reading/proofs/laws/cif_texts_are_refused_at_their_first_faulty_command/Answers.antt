use Rattle.cif_reading.proofs.RefusedTexts.{cif_in-read, cif_in-refused}
use Rattle.cif_reading.proofs.laws.cif_texts_are_refused_at_their_first_faulty_command.Goals as goal

pub returns-clause-read : goal.returns-clause-read
returns-clause-read c = λ text cif. cif_in-read text cif

pub returns-clause-refused : goal.returns-clause-refused
returns-clause-refused c = λ text at. cif_in-refused text at
