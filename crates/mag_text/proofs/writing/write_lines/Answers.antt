use Rattle.mag_text.proofs.WrittenTextLaws.{cell_appended}
use Rattle.mag_text.proofs.writing.write_lines.Goals as goal

pub returns : goal.returns
returns c =
    cell_appended c.args.tech.now c.args.scale c.args.strips.now c.args.uses.now c.args.labels.now _ _ _ _ _ _ c.in_ok-write_header.ensures
    c.in_ok-write_paint.ensures c.in_ok-write_uses.ensures c.in_ok-write_labels.ensures c.in_ok-extend_from_slice.ensures.items
