use Rattle.cell_library.proofs.Common.{◌≤◌, ◌∷◌, ◌++◌, [], List, length, map, sym, ap, ◌∙◌, arith, Some, append-nil, length-map, map-map, Rect}
use Rattle.cell_library.proofs.Common.{displaced, displacements}
use Rattle.geo_core.specs.Images.{rect_image}
use Rattle.cell_library.proofs.GridSteps.{displacement_count, images_on, images_all}
use Rattle.cell_library.proofs.element_boxes.push_grid.Goals as goal

pub loop-k-init : goal.loop-k-init
loop-k-init c = sym (append-nil c.args.boxes.now.items)

pub element_area-area-requires-clause-below_count : goal.element_area-area-requires-clause-below_count
element_area-area-requires-clause-below_count c =
    let many = displacement_count c.args.grid.now in omega (arith, many, c.count-k-end.ensures, c.loop-k-test.true)

pub loop-k-preserved : goal.loop-k-preserved
loop-k-preserved c =
    images_on (rect_image c.args.placed.now) (map (displaced c.args.hull) (displacements (Some c.args.grid.now))) c.loop-k.k
    c.element_area-area.result
    c.args.boxes.now.items c.loop-k.boxes.items c.push.new.self.items c.element_area-area.ensures.area c.loop-k.invariant
    (c.in_ok-push.ensures.items ∙ ap (λ (box : Rect). c.loop-k.boxes.items ++ box ∷ []) c.rect.ensures.value)

pub returns : goal.returns
returns c =
    let steps = displacements (Some c.args.grid.now) in
    let many = displacement_count c.args.grid.now in
    let long = length-map steps (displaced c.args.hull) in
    let past : length (map (displaced c.args.hull) steps) ≤ c.loop-k.k = omega (arith, many, long, c.count-k-end.ensures, c.loop-k-test.false) in
    images_all (rect_image c.args.placed.now) (map (displaced c.args.hull) steps) c.loop-k.k c.args.boxes.now.items c.loop-k.boxes.items past
    c.loop-k.invariant
    ∙ ap (λ (boxes : List Rect). c.args.boxes.now.items ++ boxes) (map-map (rect_image c.args.placed.now) (displaced c.args.hull) steps)
