use Rattle.cell_library.proofs.Common.{◌≡◌, ◌+◌, ◌*◌, ◌++◌, ◌∷◌, [], suc, ℕ, ℤ, sym, ap, subst, ◌∙◌, arith, slice_get, columns, displacements, Spot}
use Rattle.cell_library.proofs.Common.{CanBeDropped, spot_at, spots_to, AddsSpots}
use Rattle.std.proofs.Common.{Some}
use Rattle.cell_library.proofs.GridSpots.{row_kept, step_small}
use Rattle.cell_library.proofs.RowSpots.{columns_dropped, displaced_as, kept, kept_columns, kept_step, place_below}
use Rattle.cell_library.proofs.spots.add_row.Goals as goal

pub loop-n-init : goal.loop-n-init
loop-n-init c = λ start adds.
    let wide : c.index_count-columns.result ≡ columns c.args.grid.now = c.index_count-columns.ensures
    ∙ kept_columns c.args.grid.now c.requires.grid.lawful in
    let from = c.args.from.now in
    columns_dropped from c.args.grid.now c.index_count-columns.result c.args.m 0 c.args.across.0 c.args.across.0 c.args.across.1
    c.args.found.now.items
    c.requires.grid wide c.requires.row (omega arith) (omega (arith, wide, c.requires.across.order, c.requires.across.within)) c.requires.across
    (λ n low high seen past. absurd (omega (arith, high, seen))) start
    (subst (λ (k : ℕ). AddsSpots (CanBeDropped from) (spots_to from k) start c.args.found.now.items)
    (let e : c.args.m * c.index_count-columns.result ≡ c.args.m * c.index_count-columns.result + 0 = omega arith in e) adds)

pub element-dx-requires-clause-below_count : goal.element-dx-requires-clause-below_count
element-dx-requires-clause-below_count c =
    let wide : c.index_count-columns.result ≡ columns c.args.grid.now = c.index_count-columns.ensures
    ∙ kept_columns c.args.grid.now c.requires.grid.lawful in
    place_below c.args.grid.now c.index_count-columns.result c.args.m c.loop-n.n wide c.requires.row
    (omega (arith, wide, c.loop-n-test.true, c.requires.across.within))

pub spot_of-requires-clause-stands : goal.spot_of-requires-clause-stands
spot_of-requires-clause-stands c =
    let k = c.args.m * c.index_count-columns.result + c.loop-n.n in
    let step : ℤ × ℤ = (c.element-dx.result.2, c.element-dx.result.3) in
    let is : slice_get (displacements c.args.from.now.used.grid) k ≡ Some step =
    displaced_as c.args.from.now.used c.args.grid.now k c.element-dx.result c.requires.grid c.element-dx.ensures.nth in
    let keeps = kept_step step (step_small c.args.from.now.used.grid k step c.requires.room.lawful.grid is) in
    is ∙ (λ i. Some (sym keeps.0 i, sym keeps.1 i))

pub loop-n-preserved : goal.loop-n-preserved
loop-n-preserved c = λ start adds.
    let from = c.args.from.now in
    let k = c.args.m * c.index_count-columns.result + c.loop-n.n in
    let step : ℤ × ℤ = (c.element-dx.result.2, c.element-dx.result.3) in
    let is : slice_get (displacements from.used.grid) k ≡ Some step =
    displaced_as from.used c.args.grid.now k c.element-dx.result c.requires.grid c.element-dx.ensures.nth in
    let keeps = kept_step step (step_small from.used.grid k step c.requires.room.lawful.grid is) in
    let stands : slice_get (displacements from.used.grid) k ≡ Some (kept step.0, kept step.1) = is ∙ (λ i. Some (sym keeps.0 i, sym keeps.1 i)) in
    let spot : c.spot_of.result ≡ spot_at from k (kept step.0, kept step.1) = c.spot_of.ensures in
    let more : c.push.new.self.items ≡ c.loop-n.found.items ++ spot_at from k (kept step.0, kept step.1) ∷ [] =
    c.in_ok-push.ensures.items ∙ ap (λ (s : Spot). c.loop-n.found.items ++ s ∷ []) spot in
    subst (λ (n : ℕ). AddsSpots (CanBeDropped from) (spots_to from n) start c.push.new.self.items)
    (let e : suc k ≡ c.args.m * c.index_count-columns.result + (c.loop-n.n + 1) = omega arith in e)
    (row_kept from k (kept step.0, kept step.1) start c.loop-n.found.items c.push.new.self.items stands more (c.loop-n.invariant start adds))

pub returns : goal.returns
returns c = λ start adds.
    let wide : c.index_count-columns.result ≡ columns c.args.grid.now = c.index_count-columns.ensures
    ∙ kept_columns c.args.grid.now c.requires.grid.lawful in
    let from = c.args.from.now in
    let width = c.index_count-columns.result in
    let here : AddsSpots (CanBeDropped from) (spots_to from (c.args.m * width + c.loop-n.n)) start c.loop-n.found.items =
    c.loop-n.invariant start (subst (λ (w : ℕ). AddsSpots (CanBeDropped from) (spots_to from (c.args.m * w)) start c.args.found.now.items)
    (sym wide) adds) in
    let all = columns_dropped from c.args.grid.now width c.args.m c.loop-n.n width c.args.across.0 c.args.across.1 c.loop-n.found.items
    c.requires.grid wide c.requires.row (omega (arith, wide, c.loop-n.auto, c.requires.across.order, c.requires.across.within))
    (omega arith) c.requires.across
    (λ n low high seen past. absurd (omega (arith, low, past, c.loop-n-test.false))) start here in
    subst (λ (n : ℕ). AddsSpots (CanBeDropped from) (spots_to from n) start c.loop-n.found.items)
    (let e : c.args.m * width + width ≡ suc c.args.m * width = omega arith in e ∙ ap (λ (w : ℕ). suc c.args.m * w) wide) all
