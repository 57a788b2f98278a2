use Rattle.cell_nodes.proofs.Common.{capacitance, class_of, ◌≡◌, ◌+◌, ◌<◌, ℤ, pos, ◌+ℤ◌, List, length, map, take, get_or, to_z, of_z, ap, sym, ◌∙◌}
use Rattle.cell_nodes.proofs.Common.{arith, w128, ints, ClassRec, RawTech}
use Rattle.cell_nodes.proofs.CapacitanceLaws.{counted_in, capacitance_more}
use Rattle.cell_nodes.proofs.capacitances.capacitance_of.Goals as goal

pub loop-k-preserved : goal.loop-k-preserved
loop-k-preserved c =
    let raw = c.args.tech.now in
    let classes = c.items-classes.result.now in
    let measures = c.args.measures.now in
    let k = c.loop-k.k in
    let class = c.index-classes-k.result in
    let measure : ℤ × ℤ = get_or measures k (pos 0, pos 0) in
    let value = c.capacitance_in-sum.result in
    let many : length classes ≡ length raw.classes = ap (λ (v : List ClassRec). length v) (c.items-classes.ensures
    ∙ ap (λ (v : RawTech). v.classes) c.raw.ensures.value) in
    let within = c.loop-k-test.true in
    let one_each = c.requires.one_each in
    let most = c.raw.ensures.well_formed.classes_limit in
    let inside : k < length classes = omega (arith, many, within, one_each) in
    let few : k < 16 = omega (arith, within, one_each, most) in
    let more = capacitance_more classes measures k class (pos 0, pos 0) inside within in
    let first : to_z w128 (of_z w128 measure.0) ≡ measure.0 = omega (arith, ints, c.requires.small k (pos 0, pos 0) within) in
    let second : to_z w128 (of_z w128 measure.1) ≡ measure.1 = omega (arith, ints, c.requires.small k (pos 0, pos 0) within) in
    let counted : value ≡ counted_in (get_or classes k class) measure = (rw (first, second) at c.capacitance_in-sum.ensures.value)
    ∙ ap (λ (v : ClassRec). counted_in v measure) c.index-classes-k.is in
    let low = c.loop-k.invariant.not_negative in
    let high = c.loop-k.invariant.small in
    let bottom = c.capacitance_in-sum.ensures.not_negative in
    let top = c.capacitance_in-sum.ensures.small in
    let sum = to_z w128 c.loop-k.sum-bits in
    let added : to_z w128 (of_z w128 value) ≡ value = omega (arith, ints, bottom, top) in
    let all : to_z w128 (of_z w128 (sum +ℤ value)) ≡ sum +ℤ value = omega (arith, ints, low, high, bottom, top, few) in
    let before = c.loop-k.invariant.so_far in
    let so_far : sum +ℤ value ≡ capacitance (map class_of (take (k + 1) classes)) (take (k + 1) measures) = ap (λ (v : ℤ). v +ℤ value) before
    ∙ ap (λ (v : ℤ). capacitance (map class_of (take k classes)) (take k measures) +ℤ v) counted ∙ sym more in
    rw (added, all) (record {
      so_far = so_far;
      not_negative = omega (arith, ints, low, bottom);
      small = omega (arith, ints, high, top);
    })
