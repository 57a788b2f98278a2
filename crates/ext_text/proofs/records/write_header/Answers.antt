use Rattle.ext_text.proofs.AppendedLines.{header_written}
use Rattle.ext_text.proofs.records.write_header.Goals as goal

pub returns : goal.returns
returns c =
    header_written c.args.version.now c.args.tech.now c.bytes.result.now c.bytes-2.result.now c.args.classes.now c.args.out.now.items _ _ _ _ _ _ _ _ _
    c.in_ok-extend_from_slice.ensures.items c.in_ok-append_word.ensures c.bytes.ensures c.in_ok-extend_from_slice-2.ensures.items
    c.in_ok-append_word-2.ensures c.in_ok-extend_from_slice-3.ensures.items c.in_ok-append_word-3.ensures c.bytes-2.ensures
    c.in_ok-extend_from_slice-4.ensures.items c.in_ok-append_values.ensures c.in_ok-push.ensures.items
