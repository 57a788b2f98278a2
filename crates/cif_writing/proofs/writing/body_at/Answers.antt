use Rattle.cif_writing.proofs.Common.{sym, use_is_lawful}
use Rattle.cif_writing.proofs.writing.body_at.Goals as goal

pub returns-clause-lawful : goal.returns-clause-lawful
returns-clause-lawful c =
    (use_is_lawful c.args.library.now c.lawful.ensures c.args.cell.0 c.requires.cell c.args.k c.in-Some.field-0-0.now c.in-Some.body.now
    (sym c.in-Some.ensures)).0

pub returns-clause-child : goal.returns-clause-child
returns-clause-child c =
    (use_is_lawful c.args.library.now c.lawful.ensures c.args.cell.0 c.requires.cell c.args.k c.in-Some.field-0-0.now c.in-Some.body.now
    (sym c.in-Some.ensures)).1
