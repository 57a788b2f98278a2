use Rattle.ext_reading.proofs.Common.{subst, sym, IsLawfulArrayExt}
use Rattle.ext_reading.proofs.LawfulTexts.{draft_in-lawful}
use Rattle.ext_reading.proofs.reading.read_ext.Goals as goal

pub returns-in-Ok-clause-lawful : goal.returns-in-Ok-clause-lawful
returns-in-Ok-clause-lawful c = λ short.
    subst IsLawfulArrayExt (sym c.into_record.ensures)
    (draft_in-lawful c.in-Ok.cell c.args.bytes.now c.in_ok-draft.draft short c.in_ok-draft.ensures.read)
