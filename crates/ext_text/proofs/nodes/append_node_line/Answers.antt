use Rattle.ext_text.proofs.AppendedLines.{node_appended}
use Rattle.ext_text.proofs.nodes.append_node_line.Goals as goal

pub returns : goal.returns
returns c =
    node_appended c.args.node.now c.bytes.result.now c.bytes-2.result.now c.items.result.now c.args.out.now.items _ _ _ _ _ _ _ _
    c.in_ok-extend_from_slice.ensures.items c.in_ok-append_quoted.ensures c.bytes.ensures c.in_ok-extend_from_slice-2.ensures.items
    c.in_ok-append_number.ensures c.in_ok-append_coordinate.ensures c.in_ok-append_coordinate-2.ensures c.in_ok-append_word.ensures c.bytes-2.ensures
    c.in_ok-append_measures.ensures c.items.ensures
