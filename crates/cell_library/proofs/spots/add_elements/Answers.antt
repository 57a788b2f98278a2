use Rattle.cell_library.proofs.Common.{◌≡◌, ◌+◌, ◌*◌, ◌≤◌, ℕ, suc, sym, ap, subst, ◌∙◌, arith, rules, MovesInReach, columns, rows, CanBeDropped}
use Rattle.cell_library.proofs.Common.{spots_to, AddsSpots}
use Rattle.cell_library.proofs.GridSpots.{length-displacements, spots_to-none}
use Rattle.cell_library.proofs.RowSpots.{gap_fits, inverted_in_reach, kept_columns, kept_rows, rows_out, shift_in_reach}
use Rattle.cell_library.proofs.SeenAreas.{columns_seen, gap_in_reach, rows_seen, seen_is}
use Rattle.cell_library.proofs.spots.add_elements.Goals as goal

pub rect-seen-requires-clause-moves : goal.rect-seen-requires-clause-moves
rect-seen-requires-clause-moves c =
    subst MovesInReach (sym c.inverse.ensures.value)
    (inverted_in_reach c.args.from.now.used.placed (shift_in_reach c.args.from.now.used.placed c.requires.lawful.dx c.requires.lawful.dy))

pub overflow_sub-seen : goal.overflow_sub-seen
overflow_sub-seen c = gap_fits _ _ (seen_is _ _ _ c.requires c.inverse.ensures.value c.rect-seen.ensures.value).far.xlo c.requires.hull.xhi

pub overflow_sub-seen-2 : goal.overflow_sub-seen-2
overflow_sub-seen-2 c = gap_fits _ _ (seen_is _ _ _ c.requires c.inverse.ensures.value c.rect-seen.ensures.value).far.xhi c.requires.hull.xlo

pub overflow_sub-seen-3 : goal.overflow_sub-seen-3
overflow_sub-seen-3 c = gap_fits _ _ (seen_is _ _ _ c.requires c.inverse.ensures.value c.rect-seen.ensures.value).far.ylo c.requires.hull.yhi

pub overflow_sub-seen-4 : goal.overflow_sub-seen-4
overflow_sub-seen-4 c = gap_fits _ _ (seen_is _ _ _ c.requires c.inverse.ensures.value c.rect-seen.ensures.value).far.yhi c.requires.hull.ylo

pub multiples_between-across-requires : goal.multiples_between-across-requires
multiples_between-across-requires c =
    let far = (seen_is _ _ _ c.requires c.inverse.ensures.value c.rect-seen.ensures.value).far in
    record { step = search rules; low = gap_in_reach _ _ far.xlo c.requires.hull.xhi; high = gap_in_reach _ _ far.xhi c.requires.hull.xlo }

pub multiples_between-up-requires : goal.multiples_between-up-requires
multiples_between-up-requires c =
    let far = (seen_is _ _ _ c.requires c.inverse.ensures.value c.rect-seen.ensures.value).far in
    record { step = search rules; low = gap_in_reach _ _ far.ylo c.requires.hull.yhi; high = gap_in_reach _ _ far.yhi c.requires.hull.ylo }

pub loop-m-init : goal.loop-m-init
loop-m-init c =
    let from = c.args.from.now in
    let grid = c.grid_of-grid.result in
    let up = c.multiples_between-up.result in
    let width = c.index_count-columns.result in
    let items = c.args.found.now.items in
    let is = seen_is from c.rect-seen.result c.inverse.result c.requires c.inverse.ensures.value c.rect-seen.ensures.value in
    let holds =
    rows_seen from grid c.rect-seen.result c.index_count-rows.result up.0 up.1 c.requires is c.grid_of-grid.ensures c.index_count-rows.ensures
    c.multiples_between-up.ensures in
    let wide : width ≡ columns grid = c.index_count-columns.ensures ∙ kept_columns grid c.grid_of-grid.ensures.lawful in
    rows_out from grid width 0 up.0 up.0 up.1 items c.grid_of-grid.ensures wide (omega arith) (omega (arith, holds.order, holds.within)) holds
    (λ m low before seen past. absurd (omega (arith, before, seen))) items
    (subst (λ (n : ℕ). AddsSpots (CanBeDropped from) (spots_to from n) items items) (let e : 0 ≡ 0 * width = omega arith in e)
    (spots_to-none from items))

pub add_row-requires-clause-row : goal.add_row-requires-clause-row
add_row-requires-clause-row c =
    let high : c.index_count-rows.result ≡ rows c.grid_of-grid.result = c.index_count-rows.ensures
    ∙ kept_rows c.grid_of-grid.result c.grid_of-grid.ensures.lawful in
    let within = c.multiples_between-up.ensures.within in
    let less = c.loop-m-test.true in
    omega (arith, high, within, less)

pub add_row-requires-clause-across : goal.add_row-requires-clause-across
add_row-requires-clause-across c =
    let from = c.args.from.now in
    let is = seen_is from c.rect-seen.result c.inverse.result c.requires c.inverse.ensures.value c.rect-seen.ensures.value in
    columns_seen from c.grid_of-grid.result c.rect-seen.result c.index_count-columns.result c.multiples_between-across.result.0
    c.multiples_between-across.result.1 c.requires is c.grid_of-grid.ensures c.index_count-columns.ensures c.multiples_between-across.ensures

pub loop-m-preserved : goal.loop-m-preserved
loop-m-preserved c =
    let from = c.args.from.now in
    let width = c.index_count-columns.result in
    let is : width ≡ columns c.grid_of-grid.result = c.index_count-columns.ensures
    ∙ kept_columns c.grid_of-grid.result c.grid_of-grid.ensures.lawful in
    let here : AddsSpots (CanBeDropped from) (spots_to from (c.loop-m.m * columns c.grid_of-grid.result)) c.args.found.now.items
    c.loop-m.found.items =
    subst (λ (w : ℕ). AddsSpots (CanBeDropped from) (spots_to from (c.loop-m.m * w)) c.args.found.now.items c.loop-m.found.items) is
    c.loop-m.invariant in
    let next : AddsSpots (CanBeDropped from) (spots_to from (suc c.loop-m.m * columns c.grid_of-grid.result)) c.args.found.now.items
    c.add_row.new.found.items =
    c.in_ok-add_row.ensures c.args.found.now.items here in
    subst (λ (n : ℕ). AddsSpots (CanBeDropped from) (spots_to from n) c.args.found.now.items c.add_row.new.found.items)
    (ap (λ (w : ℕ). suc c.loop-m.m * w) (sym is) ∙ (let e : suc c.loop-m.m * width ≡ (c.loop-m.m + 1) * width = omega arith in e)) next

pub returns : goal.returns
returns c =
    let from = c.args.from.now in
    let grid = c.grid_of-grid.result in
    let up = c.multiples_between-up.result in
    let width = c.index_count-columns.result in
    let is = seen_is from c.rect-seen.result c.inverse.result c.requires c.inverse.ensures.value c.rect-seen.ensures.value in
    let holds =
    rows_seen from grid c.rect-seen.result c.index_count-rows.result up.0 up.1 c.requires is c.grid_of-grid.ensures c.index_count-rows.ensures
    c.multiples_between-up.ensures in
    let wide : width ≡ columns grid = c.index_count-columns.ensures ∙ kept_columns grid c.grid_of-grid.ensures.lawful in
    let all = rows_out from grid width c.loop-m.m (rows grid) up.0 up.1 c.loop-m.found.items c.grid_of-grid.ensures wide
    (let far : c.loop-m.m ≤ up.1 = c.loop-m.auto.m-end holds.order in omega (arith, holds.within, far)) (omega arith) holds
    (λ m low before seen past. absurd (omega (arith, low, past, c.loop-m-test.false))) c.args.found.now.items c.loop-m.invariant in
    subst (λ (n : ℕ). AddsSpots (CanBeDropped from) (spots_to from n) c.args.found.now.items c.loop-m.found.items)
    (ap (λ (w : ℕ). rows grid * w) wide ∙ sym (length-displacements from.used grid c.grid_of-grid.ensures)) all
