use Rattle.ext_text.proofs.Common.{fet_words}
use Rattle.ext_text.proofs.AppendedLines.{fet_appended, line_written}
use Rattle.ext_text.proofs.records.write_fet.Goals as goal

pub returns : goal.returns
returns c =
    line_written (fet_words c.args.fet.now) c.args.out.now.items _ _
    (fet_appended c.args.fet.now c.bytes.result.now c.bytes-2.result.now c.items.result.now c.args.out.now.items _ _ _ _ _ _ _ _
    c.in_ok-extend_from_slice.ensures.items c.in_ok-append_word.ensures c.bytes.ensures c.in_ok-append_square.ensures c.in_ok-append_number.ensures
    c.in_ok-append_number-2.ensures c.in_ok-append_quoted.ensures c.bytes-2.ensures c.in_ok-append_term.ensures c.in_ok-append_terms.ensures c.items.ensures)
    c.in_ok-push.ensures.items
