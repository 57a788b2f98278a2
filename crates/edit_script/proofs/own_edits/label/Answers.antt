use Rattle.edit_script.proofs.Common.{◌≡◌, ◌∙◌, ap, w64, to_z-of_z}
use Rattle.std.proofs.Common.{unsigned_abs}
use Rattle.edit_script.proofs.OwnLaws.{label_applies}
use Rattle.edit_script.proofs.own_edits.label.Goals as goal
use mir.Val.{of_z, to_z}

pub returns-in-Ok-copy-clause-applies : goal.returns-in-Ok-copy-clause-applies
returns-in-Ok-copy-clause-applies c =
    let done = c.label.ensures in
    let passed : to_z w64 (of_z w64 c.args.position) ≡ c.args.position = to_z-of_z w64 c.args.position c.ranges.position in
    let position_is : c.position_number.result ≡ unsigned_abs c.args.position = c.position_number.ensures.is ∙ ap unsigned_abs passed in
    label_applies c.args.library.now c.label.new.self c.args.current c.args.layer.now c.args.area c.args.position c.args.text.now c.in-Some.cell
    c.in-Ok.number (record { layer = c.in-Ok.number; area = c.args.area; position = c.position_number.result; text = c.in-Ok-copy.copied })
    c.label.result c.told.result c.in-Some.is c.in-Ok.ensures.named
    (λ i. record { layer = c.in-Ok.number; area = c.args.area; position = position_is i; text = c.in-Ok-copy.ensures i })
    (record { answers = done.answers; made = done.labelled; edit = done.edit; refused = done.refused }) c.told.ensures
