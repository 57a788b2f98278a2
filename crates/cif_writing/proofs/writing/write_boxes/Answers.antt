use Rattle.cif_writing.proofs.Common.{◌<◌, ℕ, List, length, map, drop, subst, slice_get-get_or, err_from_is_err_and, text_of, LONGEST_TEXT}
use Rattle.cif_writing.proofs.Common.{box_command}
use Rattle.cif_writing.proofs.WritingLaws.{line_first, line_on, line_last, longer, passed_on}
use Rattle.cif_writing.proofs.writing.write_boxes.Goals as goal

pub loop-area-init : goal.loop-area-init
loop-area-init c = line_first box_command c.args.areas.now c.args.out.now.items

pub loop-area-preserved : goal.loop-area-preserved
loop-area-preserved c =
    line_on box_command c.args.areas.now c.loop-area.area-index _ c.loop-area.out.items c.write_box.new.out.items _
    (slice_get-get_or c.args.areas.now c.loop-area.area-index _ c.loop-area-test.true) c.loop-area.invariant c.in_ok-write_box.ensures

pub returns-in_err-check_length-clause-refused : goal.returns-in_err-check_length-clause-refused
returns-in_err-check_length-clause-refused c =
    passed_on c.from_residual.result c.in_err-check_length.field-0.0 _ (err_from_is_err_and c.from_residual.result c.from_residual.ensures.1)
    (λ _. longer c.loop-area.out.items (text_of (map box_command (drop c.loop-area.area-index c.args.areas.now))) _ c.loop-area.invariant
    (subst (λ (text : List ℕ). LONGEST_TEXT < length text) c.deref.ensures.value c.in_err-check_length.ensures.refused))

pub returns-clause-written : goal.returns-clause-written
returns-clause-written c = line_last box_command c.args.areas.now c.loop-area.area-index _ _ c.loop-area-test.false c.loop-area.invariant
