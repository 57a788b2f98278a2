use Rattle.cell_library.proofs.Common.{◌≡◌, ◌++◌, map, take, Some, displaced, displacements}
use Rattle.geo_core.specs.Images.{rect_image}
use Rattle.cell_library.proofs.element_boxes.push_grid.Given as goal

-- the boxes of the elements so far were added
abbrev pub invariant-loop-k : goal.invariant-loop-k
invariant-loop-k l =
    l.boxes.items ≡ l.initial.boxes.items ++ map (rect_image l.placed) (take l.k (map (displaced l.hull) (displacements (Some l.grid))))
