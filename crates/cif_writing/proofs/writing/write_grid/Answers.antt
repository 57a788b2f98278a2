use Rattle.cif_writing.proofs.Common.{map, Some, displacements, element_transform, call_command}
use Rattle.cif_writing.proofs.WritingLaws.{line_first, line_on}
use Rattle.cif_writing.proofs.writing.write_grid.Goals as goal

pub loop-k-init : goal.loop-k-init
loop-k-init c =
    line_first (call_command c.args.number) (map (element_transform c.args.placed.now) (displacements (Some c.args.grid.now))) c.args.out.now.items

pub loop-k-preserved : goal.loop-k-preserved
loop-k-preserved c =
    line_on (call_command c.args.number) (map (element_transform c.args.placed.now) (displacements (Some c.args.grid.now))) c.loop-k.k
    c.element_at-element.result c.loop-k.out.items c.write_call.new.out.items _ c.element_at-element.ensures c.loop-k.invariant c.in_ok-write_call.ensures
