use Rattle.ext_text.proofs.Common.{use_words}
use Rattle.ext_text.proofs.AppendedLines.{use_appended, line_written}
use Rattle.ext_text.proofs.records.write_use.Goals as goal

pub returns : goal.returns
returns c =
    line_written (use_words c.args.used.now) c.args.out.now.items _ _
    (use_appended c.args.used.now c.bytes.result.now c.bytes-2.result.now c.args.out.now.items _ _ _ _ c.in_ok-extend_from_slice.ensures.items
    c.in_ok-append_word.ensures c.bytes.ensures c.in_ok-append_use_name.ensures c.bytes-2.ensures c.in_ok-append_coordinates.ensures)
    c.in_ok-push.ensures.items
