use Rattle.rect_overlays.proofs.Common.{arith, ◌<ℤ◌, ints}
use Rattle.rect_overlays.proofs.Halves.{begins_inside, ends_inside}
use Rattle.rect_overlays.proofs.cuts.inner_side.Goals as goal

pub returns-then-area-partial-2 : goal.returns-then-area-partial-2
returns-then-area-partial-2 c =
    let area = c.args.area.now in
    let rect = c.args.partial.now in
    let above : area.ylo <ℤ rect.ylo = omega (arith, ints) in
    let below = begins_inside area rect c.requires.meets above in
    (omega (arith, ints), omega (arith, ints, below))

pub returns-else-area-partial-2 : goal.returns-else-area-partial-2
returns-else-area-partial-2 c =
    let area = c.args.area.now in
    let rect = c.args.partial.now in
    let ends = ends_inside area rect c.requires.meets c.requires.partial (omega (arith, ints)) (omega (arith, ints)) (omega (arith, ints)) in
    (omega (arith, ints, ends.0), omega (arith, ints, ends.1))
