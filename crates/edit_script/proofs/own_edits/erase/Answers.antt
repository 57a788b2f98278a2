use Rattle.edit_script.proofs.OwnLaws.{erase_applies}
use Rattle.edit_script.proofs.own_edits.erase.Goals as goal

pub returns-in-Ok-clause-applies : goal.returns-in-Ok-clause-applies
returns-in-Ok-clause-applies c =
    let done = c.erase.ensures in
    let old = c.args.library.now in
    erase_applies old c.erase.new.self c.args.current c.args.layer.now c.args.area c.in-Some.cell c.in-Ok.number.0 c.erase.result c.told.result
    c.in-Some.is c.in-Ok.ensures.named (record { answers = done.answers; made = done.erased; edit = done.edit; refused = done.refused })
    c.told.ensures
