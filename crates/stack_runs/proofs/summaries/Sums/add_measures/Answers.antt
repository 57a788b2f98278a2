use Rattle.std.proofs.Common.{◌≡◌, ℤ, pos, get_or, arith, rules}
use Rattle.std.specs.Prelude.{◌+ℤ◌}
use Rattle.std.proofs.lemmas.List.{get_or_default}
use Rattle.stack_runs.proofs.Growing.{sum_more_from}
use Rattle.stack_runs.proofs.summaries.Sums.add_measures.Goals as goal

pub loop-measure-preserved : goal.loop-measure-preserved
loop-measure-preserved c =
    let before = c.loop-measure.invariant in
    let measures = c.args.measures.now in
    let class = c.loop-measure.measure-index in
    let measure : ℤ × ℤ = get_or measures class (pos 0, pos 0) in
    let is : measure ≡ get_or measures class measure = get_or_default measures class (pos 0, pos 0) measure (omega arith) in
    let area : c.add_measure.new.self.area ≡ c.loop-measure.self.area +ℤ measure.0 = search rules in
    let perimeter : c.add_measure.new.self.perimeter ≡ c.loop-measure.self.perimeter +ℤ measure.1 = search rules in
    record {
      area = sum_more_from (λ (m : ℤ × ℤ). m.0) measures class measure c.args.self.now.area c.loop-measure.self.area c.add_measure.new.self.area
          (omega arith) is before.area area;
      perimeter = sum_more_from (λ (m : ℤ × ℤ). m.1) measures class measure c.args.self.now.perimeter c.loop-measure.self.perimeter
          c.add_measure.new.self.perimeter (omega arith) is before.perimeter perimeter;
    }
