use Rattle.tile_members.proofs.Common.{seen}
use Rattle.tile_members.proofs.OpenedLaws.{opened_more, opened_same}
use Rattle.tile_members.proofs.opened_cells.OpenedCells.enter.Goals as goal

pub returns-in_err-insert-clause-cells : goal.returns-in_err-insert-clause-cells
returns-in_err-insert-clause-cells g c =
    opened_same (seen c.args.library.now) c.args.self.now (record { entries = c.insert.new.self }) c.requires.cells c.in_err-insert.ensures.err

pub returns-in_ok-insert-clause-cells : goal.returns-in_ok-insert-clause-cells
returns-in_ok-insert-clause-cells g c =
    opened_more (seen c.args.library.now) c.args.self.now (record { entries = c.insert.new.self }) c.args.cell.0 c.in_ok-opened.opened c.requires.cells
    c.in_ok-opened.ensures.opened c.in_ok-insert.ensures.updates.0
