use Rattle.sim_text.proofs.AppendedText.{header_appended, named}
use Rattle.sim_text.proofs.writing.append_header.Goals as goal

pub returns : goal.returns
returns c =
    header_appended c.args.tech.now _ _ _ _ c.in_ok-extend_from_slice.ensures.items (named _ _ _ _ c.in_ok-append_word.ensures c.bytes.ensures)
    c.in_ok-extend_from_slice-2.ensures.items
