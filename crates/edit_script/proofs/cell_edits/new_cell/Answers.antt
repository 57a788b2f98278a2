use Rattle.edit_script.proofs.CellLaws.{new_made}
use Rattle.edit_script.proofs.cell_edits.new_cell.Goals as goal

pub returns-in-Ok-new_cell-clause-applies : goal.returns-in-Ok-new_cell-clause-applies
returns-in-Ok-new_cell-clause-applies c =
    let made = c.in-Ok-new_cell in
    new_made c.args.library.now c.new_cell.new.self c.args.current.now c.args.name.now c.in-Ok.copied made.key c.in-Ok.ensures made.ensures.answers
    made.ensures.added made.ensures.key made.ensures.edit
