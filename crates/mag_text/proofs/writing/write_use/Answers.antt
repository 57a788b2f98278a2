use Rattle.mag_text.proofs.WrittenTextLaws.{use_appended}
use Rattle.mag_text.proofs.writing.write_use.Goals as goal

pub returns : goal.returns
returns c =
    use_appended c.args.placed.now _ _ _ _ _ _ _ c.bytes.ensures c.in_ok-write_use_name.ensures c.in_ok-write_array.ensures
    c.in_ok-write_no_time.ensures c.in_ok-write_transform.ensures c.in_ok-write_box.ensures
