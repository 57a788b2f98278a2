use Rattle.mag_text.proofs.WrittenTextLaws.{numbers_appended}
use Rattle.mag_text.proofs.writing.write_numbers.Goals as goal

pub returns : goal.returns
returns c =
    numbers_appended c.args.key.now c.args.numbers.now _ _ _ _ c.in_ok-extend_from_slice.ensures.items c.in_ok-append_numbers.ensures c.in_ok-push.ensures.items
