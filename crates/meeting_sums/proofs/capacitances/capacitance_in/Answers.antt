use Rattle.meeting_sums.proofs.Common.{◌≡◌, ◌+ℤ◌, to_z, of_z, arith, w128, ints}
use Rattle.meeting_sums.proofs.capacitances.capacitance_in.Goals as goal

pub returns-clause-value : goal.returns-clause-value
returns-clause-value c =
    let low = c.charge.ensures.least in
    let high = c.charge.ensures.most in
    let bottom = c.charge-2.ensures.least in
    let top = c.charge-2.ensures.most in
    let first : to_z w128 (of_z w128 c.charge.result) ≡ c.charge.result = omega (arith, ints, low, high) in
    let second : to_z w128 (of_z w128 c.charge-2.result) ≡ c.charge-2.result = omega (arith, ints, bottom, top) in
    let both : to_z w128 (of_z w128 (c.charge.result +ℤ c.charge-2.result)) ≡ c.charge.result +ℤ c.charge-2.result =
    omega (arith, ints, low, high, bottom, top) in
    let area : to_z w128 (of_z w128 c.args.area) ≡ c.args.area = omega (arith, ints, c.ranges.area.sfits) in
    let perimeter : to_z w128 (of_z w128 c.args.perimeter) ≡ c.args.perimeter = omega (arith, ints, c.ranges.perimeter.sfits) in
    let squares = rw area at c.charge.ensures.value in
    let edges = rw perimeter at c.charge-2.ensures.value in
    rw (first, second, both) (λ k. squares k +ℤ edges k)
