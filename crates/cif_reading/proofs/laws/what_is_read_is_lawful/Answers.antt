use Rattle.cif_reading.proofs.LawfulDrafts.{cif-lawful}
use Rattle.cif_reading.proofs.laws.what_is_read_is_lawful.Goals as goal

pub returns : goal.returns
returns c = λ text cif read. cif-lawful text cif read
