use Rattle.element_index.proofs.Common.{◌≡◌, pos, ◌*ℤ◌, to_z, of_z, arith, w64, ints, rect_is, raised}
use Rattle.element_index.proofs.uses.raised.Goals as goal

pub returns : goal.returns
returns c =
    let low = c.requires.low in
    let few = c.requires.few in
    let up : to_z w64 (of_z w64 (to_z w64 c.args.number *ℤ pos 4294967296)) ≡ pos c.args.number *ℤ pos 4294967296 = omega (arith, ints) in
    rect_is _ (raised c.args.area c.args.number) (omega (arith, ints)) (omega (arith, ints)) (omega (arith, ints)) (omega (arith, ints))
