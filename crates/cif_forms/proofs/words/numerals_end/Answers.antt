use Rattle.cif_forms.proofs.Common.{sym}
use Rattle.cif_forms.proofs.WordLaws.{end-none}
use Rattle.cif_forms.proofs.words.numerals_end.Goals as goal

pub returns-in-None-clause-value : goal.returns-in-None-clause-value
returns-in-None-clause-value c = end-none c.args.bytes.now (sym c.in-None.ensures)
