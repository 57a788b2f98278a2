use Rattle.cif_expansion.proofs.Common.{◌≡◌, ◌++◌, map, take, All, rect_image, LiesInRange}
use Rattle.cif_expansion.proofs.drawing.push_images.Given as goal

abbrev pub invariant-loop-placement : goal.invariant-loop-placement
invariant-loop-placement l = record {
  pushed : l.boxes.items ≡ l.initial.boxes.items ++ map (λ placement. rect_image placement l.area) (take l.placement-index l.placements);
  in_range : All (λ placement. LiesInRange (rect_image placement l.area)) (take l.placement-index l.placements);
}
