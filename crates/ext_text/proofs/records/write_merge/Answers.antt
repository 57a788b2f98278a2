use Rattle.ext_text.proofs.Common.{merge_words}
use Rattle.ext_text.proofs.AppendedLines.{merge_appended, line_written}
use Rattle.ext_text.proofs.records.write_merge.Goals as goal

pub returns : goal.returns
returns c =
    line_written (merge_words c.args.row.now) c.args.out.now.items _ _
    (merge_appended c.args.row.now c.bytes.result.now c.bytes-2.result.now c.items.result.now c.args.out.now.items _ _ _ _ _
    c.in_ok-extend_from_slice.ensures.items c.in_ok-append_quoted.ensures c.bytes.ensures c.in_ok-append_row_path.ensures c.bytes-2.ensures
    c.in_ok-append_number.ensures c.in_ok-append_measures.ensures c.items.ensures)
    c.in_ok-push.ensures.items
