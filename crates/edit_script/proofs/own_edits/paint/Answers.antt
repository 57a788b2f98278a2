use Rattle.edit_script.proofs.OwnLaws.{paint_applies}
use Rattle.edit_script.proofs.own_edits.paint.Goals as goal

pub returns-in-Ok-clause-applies : goal.returns-in-Ok-clause-applies
returns-in-Ok-clause-applies c =
    let done = c.paint.ensures in
    let old = c.args.library.now in
    paint_applies old c.paint.new.self c.args.current c.args.layer.now c.args.area c.in-Some.cell c.in-Ok.number.0 c.paint.result c.told.result
    c.in-Some.is c.in-Ok.ensures.named (record { answers = done.answers; made = done.painted; edit = done.edit; refused = done.refused })
    c.told.ensures
