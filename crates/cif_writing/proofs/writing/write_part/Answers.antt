use Rattle.cif_writing.proofs.Common.{◌≡◌, ◌++◌, map, sym, ◌∙◌, on_ok_weaker, text_of, box_command, part_lines, IsTooLongWith}
use Rattle.cif_writing.proofs.SymbolLaws.{boxes_too_long, boxes_written}
use Rattle.cif_writing.proofs.WritingLaws.{refused_weaker}
use Rattle.cif_writing.proofs.writing.write_part.Goals as goal

pub returns-clause-written : goal.returns-clause-written
returns-clause-written c =
    on_ok_weaker c.write_boxes.result
    (λ (h : c.write_boxes.new.out.items ≡ c.write_layer.new.out.items ++ text_of (map box_command c.args.areas.now)).
    boxes_written c.args.number c.args.areas.now c.args.out.now.items c.write_layer.new.out.items c.write_boxes.new.out.items
    (sym c.is_empty.ensures ∙ c.if-is_empty.false) c.in_ok-write_layer.ensures h) c.write_boxes.ensures.written

pub returns-clause-refused : goal.returns-clause-refused
returns-clause-refused c =
    refused_weaker c.write_boxes.result (IsTooLongWith (map box_command c.args.areas.now) c.write_layer.new.out.items)
    (IsTooLongWith (part_lines c.args.number c.args.areas.now) c.args.out.now.items)
    (boxes_too_long c.args.number c.args.areas.now c.args.out.now.items c.write_layer.new.out.items (sym c.is_empty.ensures ∙ c.if-is_empty.false)
    c.in_ok-write_layer.ensures) c.write_boxes.ensures.refused
