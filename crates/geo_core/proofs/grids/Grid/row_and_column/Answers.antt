-- The k-th element stands in row k / columns and column k % columns.
use Rattle.geo_core.proofs.Common.{◌≡◌, ℕ, ◌<◌, ℤ, length, ◌/◌, ◌%◌, ◌∙◌, ap, arith, Some, ints, Grid, indices, elements_of, IsLawful}
use Rattle.geo_core.proofs.ElementLaws.{elements_of-at, element_of-same, stands_at, StandsAt, indices-same, kept}
use Rattle.geo_core.proofs.grids.Grid.row_and_column.Goals as goal

stands : (grid : Grid) (k c : ℕ) → IsLawful grid → k < length (elements_of grid) → (xlo xhi : ℤ) → c ≡ indices xlo xhi → xlo ≡ grid.xlo
    → xhi ≡ grid.xhi → StandsAt grid k (k / c) (k % c)
stands grid k c lawful below xlo xhi same e f = stands_at grid k c lawful below (indices-same c xlo xhi grid.xlo grid.xhi same e f)

pub overflow_cast-result : goal.overflow_cast-result
overflow_cast-result c = let at = stands c.args.self.now c.args.k c.indices-columns.result c.requires.lawful c.requires.below_count
    (kept c.args.self.now.xlo) (kept c.args.self.now.xhi) c.indices-columns.ensures (omega (arith, ints)) (omega (arith, ints)) in
    omega (arith, ints, at.row_small)

pub returns-clause-row_low : goal.returns-clause-row_low
returns-clause-row_low c = let at = stands c.args.self.now c.args.k c.indices-columns.result c.requires.lawful c.requires.below_count
    (kept c.args.self.now.xlo) (kept c.args.self.now.xhi) c.indices-columns.ensures (omega (arith, ints)) (omega (arith, ints)) in
    omega (arith, ints, at.row_small)

pub returns-clause-row_high : goal.returns-clause-row_high
returns-clause-row_high c = let at = stands c.args.self.now c.args.k c.indices-columns.result c.requires.lawful c.requires.below_count
    (kept c.args.self.now.xlo) (kept c.args.self.now.xhi) c.indices-columns.ensures (omega (arith, ints)) (omega (arith, ints)) in
    omega (arith, ints, at.row_small)

pub returns-clause-at : goal.returns-clause-at
returns-clause-at c =
    let at = stands c.args.self.now c.args.k c.indices-columns.result c.requires.lawful c.requires.below_count (kept c.args.self.now.xlo)
    (kept c.args.self.now.xhi) c.indices-columns.ensures (omega (arith, ints)) (omega (arith, ints)) in
    elements_of-at c.args.self.now c.args.k (c.args.k / c.indices-columns.result) (c.args.k % c.indices-columns.result) at.row at.column at.at
    ∙ ap Some (element_of-same c.args.self.now _ _ _ _ (omega (arith, ints, at.row_small)) (omega (arith, ints, at.column_small)))
