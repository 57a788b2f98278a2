use Rattle.mag_text.proofs.Common.{sym, seen, view_at}
use Rattle.mag_text.proofs.CellTextLaws.{use_lawful, use_there}
use Rattle.mag_text.proofs.cell_texts.use_written.Goals as goal

pub written_use-requires : goal.written_use-requires
written_use-requires c =
    (use_lawful c.args.library.now c.args.cell.0 c.args.k (c.in-Some.id.now, c.in-Some.used.now) c.lawful.ensures c.requires.cell
    (sym c.in-Some.ensures)).1

pub unreachable-requires : goal.unreachable-requires
unreachable-requires c = use_there (view_at (seen c.args.library.now) c.args.cell.0).uses c.args.k c.requires.k (sym c.in-None.ensures)
