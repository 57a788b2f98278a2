use Rattle.cell_nodes.proofs.Common.{◌≡◌, pos, to_z, of_z, arith, w128, ints}
use Rattle.cell_nodes.proofs.CapacitanceLaws.{product_small}
use Rattle.cell_nodes.proofs.capacitances.charge.Goals as goal

pub returns : goal.returns
returns c =
    let units = c.args.units in
    let most = product_small units c.args.per_unit c.requires.some c.requires.few c.requires.per_unit in
    let here : to_z w128 (of_z w128 units) ≡ units = omega (arith, ints) in
    let per : to_z w128 (of_z w128 c.from.result) ≡ pos c.args.per_unit = omega (arith, ints) in
    rw (here, per) (let low = most.0 in let high = most.1 in record {
      value = omega (arith, ints, low, high);
      not_negative = omega (arith, ints, low, high);
      small = omega (arith, ints, low, high);
    })
