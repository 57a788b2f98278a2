use Rattle.cell_library.proofs.Common.{take, layout_of, OwnBoxIs}
use Rattle.cell_library.proofs.own_boxes.own_box.Given as goal

-- the box holds the paint and the labels so far
abbrev pub invariant-loop-label : goal.invariant-loop-label
invariant-loop-label l = OwnBoxIs (layout_of l.paint) (take l.label-index l.labels) l.found
