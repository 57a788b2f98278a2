use Rattle.cif_forms.proofs.WrittenTexts.{commands_of-written, read-written}
use Rattle.cif_forms.proofs.laws.reads_written_texts.Goals as goal

pub returns-clause-commands : goal.returns-clause-commands
returns-clause-commands g c = commands_of-written

pub returns-clause-read : goal.returns-clause-read
returns-clause-read g c = λ state commands looks unmarked. read-written g.R.CommandReader.step looks state commands unmarked
