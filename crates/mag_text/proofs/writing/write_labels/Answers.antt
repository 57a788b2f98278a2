use Rattle.mag_text.proofs.Common.{sym, ◌∙◌}
use Rattle.mag_text.proofs.WrittenTextLaws.{some_labels_appended}
use Rattle.mag_text.proofs.writing.write_labels.Goals as goal

pub returns : goal.returns
returns c =
    some_labels_appended c.args.tech.now c.args.labels.now _ _ _ (sym c.is_empty.ensures ∙ c.if-is_empty.false) c.in_ok-extend_from_slice.ensures.items
    c.in_ok-write_each_label.ensures
