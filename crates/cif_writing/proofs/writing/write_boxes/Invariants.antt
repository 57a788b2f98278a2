use Rattle.cif_writing.proofs.Common.{◌≡◌, ◌++◌, map, drop, text_of, box_command}
use Rattle.cif_writing.proofs.writing.write_boxes.Given as goal

-- what stands and the boxes that are left are all
abbrev pub invariant-loop-area : goal.invariant-loop-area
invariant-loop-area l =
    l.out.items ++ text_of (map box_command (drop l.area-index l.areas)) ≡ l.initial.out.items ++ text_of (map box_command l.areas)
