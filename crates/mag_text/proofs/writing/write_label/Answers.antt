use Rattle.mag_text.proofs.WrittenTextLaws.{label_appended}
use Rattle.mag_text.proofs.writing.write_label.Goals as goal

pub returns : goal.returns
returns c =
    label_appended c.args.tech.now c.args.label.now _ _ _ _ _ _ _ _ c.layer_word.ensures c.bytes.ensures c.in_ok-extend_from_slice.ensures.items
    c.in_ok-append_word.ensures c.in_ok-append_label_numbers.ensures c.in_ok-append_word-2.ensures c.in_ok-push.ensures.items
