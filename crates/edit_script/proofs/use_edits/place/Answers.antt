use Rattle.edit_script.proofs.UseLaws.{place_applies}
use Rattle.edit_script.proofs.use_edits.place.Goals as goal

pub returns-in-Ok-copy-clause-applies : goal.returns-in-Ok-copy-clause-applies
returns-in-Ok-copy-clause-applies c =
    let done = c.place.ensures in
    place_applies c.args.library.now c.place.new.self c.args.current c.args.name.now c.args.id.now c.args.six.now c.in-Some.cell c.in-Ok.child.0
    c.in-Ok-copy.copied c.place.result c.told.result c.in-Some.is c.in-Ok.ensures.named c.in-Ok-copy.ensures
    (record { answers = done.answers; made = done.placed; edit = done.edit; refused = done.refused }) c.told.ensures
