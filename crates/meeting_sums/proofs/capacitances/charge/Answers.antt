use Rattle.meeting_sums.proofs.Common.{◌≡◌, pos, to_z, of_z, arith, w128, ints}
use Rattle.meeting_sums.proofs.CapacitanceLaws.{product_around}
use Rattle.meeting_sums.proofs.capacitances.charge.Goals as goal

pub returns : goal.returns
returns c =
    let units = c.args.units in
    let most = product_around units c.args.per_unit (c.requires.least, c.requires.most) c.requires.per_unit in
    let here : to_z w128 (of_z w128 units) ≡ units = omega (arith, ints) in
    let per : to_z w128 (of_z w128 c.from.result) ≡ pos c.args.per_unit = omega (arith, ints) in
    rw (here, per) (let low = most.0 in let high = most.1 in record {
      value = omega (arith, ints, low, high);
      least = omega (arith, ints, low, high);
      most = omega (arith, ints, low, high);
    })
