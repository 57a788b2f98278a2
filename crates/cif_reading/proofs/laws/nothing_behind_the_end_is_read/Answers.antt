use Rattle.cif_reading.proofs.RefusedTexts.{read_from-ended}
use Rattle.cif_reading.proofs.laws.nothing_behind_the_end_is_read.Goals as goal

pub returns : goal.returns
returns c = λ draft commands ended. read_from-ended draft commands ended
