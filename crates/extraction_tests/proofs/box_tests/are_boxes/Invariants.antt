use Rattle.std.proofs.Common.{ℕ, ◌<◌, get_or}
use Rattle.geo_core.specs.declared.squares.Rect.{Rect}
use Rattle.interact.specs.NearBoxes.{IsNearBox}
use Rattle.extraction_tests.proofs.box_tests.are_boxes.Given as goal

-- the areas so far are boxes
abbrev pub invariant-loop-area : goal.invariant-loop-area
invariant-loop-area l = (k : ℕ) (d : Rect) → k < l.area-index → IsNearBox (get_or l.areas k d)
