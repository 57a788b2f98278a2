-- The element has the indices and the displacement of its row and column, and none stands in the list twice.
use Rattle.geo_core.proofs.Common.{Some, ap, ◌∙◌, arith, rules, ints, to_z-of_z, w64, FitsSigned}
use Rattle.finite_sets.proofs.Places.{one_place}
use Rattle.geo_core.proofs.ElementLaws.{Distinct-elements_of, element_of-parts, nth_index-same, product-same, kept}
use Rattle.geo_core.proofs.grids.Grid.element.Goals as goal

pub returns-clause-nth : goal.returns-clause-nth
returns-clause-nth c =
    let i : FitsSigned w64 c.nth_index.result = search rules in
    let j : FitsSigned w64 c.nth_index-2.result = search rules in
    let dx : FitsSigned w64 c.steps.result = search rules in
    let dy : FitsSigned w64 c.steps-2.result = search rules in
    let grid = c.args.self.now in
    let m = c.row_and_column-m.result.0 in
    let n = c.row_and_column-m.result.1 in
    c.row_and_column-m.ensures.at
    ∙ ap Some (element_of-parts grid m n _ _ _ _
    (to_z-of_z w64 c.nth_index.result i ∙ nth_index-same _ (kept grid.xlo) (kept grid.xhi) (kept n) grid.xlo grid.xhi n c.nth_index.ensures
    (omega (arith, ints)) (omega (arith, ints)) (omega (arith, ints)))
    (to_z-of_z w64 c.nth_index-2.result j ∙ nth_index-same _ (kept grid.ylo) (kept grid.yhi) (kept m) grid.ylo grid.yhi m c.nth_index-2.ensures
    (omega (arith, ints)) (omega (arith, ints)) (omega (arith, ints)))
    (to_z-of_z w64 c.steps.result dx ∙ product-same _ (kept n) (kept grid.xsep) n grid.xsep c.steps.ensures (omega (arith, ints)) (omega (arith, ints)))
    (to_z-of_z w64 c.steps-2.result dy ∙ product-same _ (kept m) (kept grid.ysep) m grid.ysep c.steps-2.ensures (omega (arith, ints)) (omega (arith, ints))))

pub returns-clause-once : goal.returns-clause-once
returns-clause-once c = λ other found. one_place _ other _ _ (Distinct-elements_of c.args.self.now) found (returns-clause-nth c)
