use Rattle.element_paths.proofs.Common.{ℕ, ◌+◌, ◌-◌, ◌/◌, ◌%◌, ◌<◌, length, get_or, sym, ap, subst, arith, displacements, tree_at, seen, view_at}
use Rattle.element_paths.proofs.Common.{use_is_lawful, UseStart}
use Rattle.element_paths.specs.UseStarts.{IsStepDown}
use Rattle.element_paths.proofs.DescentLaws.{element_is_within, has_begun, position_fits, some_stand, step_to, use_above}
use Rattle.element_paths.proofs.StartLaws.{none_past, starts_rise}
use Rattle.element_paths.proofs.descents.step_among.Goals as goal

abbrev no_start : UseStart
no_start = record { element = 0; position = 0 }

pub last_begun-k-requires-clause-rise : goal.last_begun-k-requires-clause-rise
last_begun-k-requires-clause-rise c =
    starts_rise (tree_at (seen c.args.library.now)) (view_at (seen c.args.library.now) c.args.cell.0).uses c.args.starts.now c.requires.starts

pub last_begun-k-requires-clause-begun : goal.last_begun-k-requires-clause-begun
last_begun-k-requires-clause-begun c =
    has_begun c.args.library.now c.lawful.ensures c.args.cell.0 c.requires.cell c.args.starts.now c.args.element c.requires.starts c.requires.below
    c.requires.element

pub standing_count-size-requires : goal.standing_count-size-requires
standing_count-size-requires c =
    (use_is_lawful c.args.library.now c.lawful.ensures c.args.cell.0 c.requires.cell c.last_begun-k.result c.in-Some.id.now c.in-Some.used.now
    (sym c.in-Some.ensures)).1

pub overflow_sub-past : goal.overflow_sub-past
overflow_sub-past c =
    (use_above c.args.library.now c.lawful.ensures c.args.cell.0 c.requires.cell c.args.starts.now c.args.element c.last_begun-k.result no_start
    (c.in-Some.id.now, c.in-Some.used.now) c.requires.starts c.requires.element c.last_begun-k.ensures.last (sym c.in-Some.ensures)).begun

pub nonzero_div-n : goal.nonzero_div-n
nonzero_div-n c =
    let some = some_stand (tree_at (seen c.args.library.now) c.in-Some.used.now.child.0) in
    omega (arith, some, c.standing_count-size.ensures)

pub nonzero_rem-result : goal.nonzero_rem-result
nonzero_rem-result c =
    let some = some_stand (tree_at (seen c.args.library.now) c.in-Some.used.now.child.0) in
    omega (arith, some, c.standing_count-size.ensures)

pub overflow_add-result : goal.overflow_add-result
overflow_add-result c =
    let start = get_or c.args.starts.now c.last_begun-k.result no_start in
    let trees = tree_at (seen c.args.library.now) in
    let above = use_above c.args.library.now c.lawful.ensures c.args.cell.0 c.requires.cell c.args.starts.now c.args.element
    c.last_begun-k.result no_start (c.in-Some.id.now, c.in-Some.used.now) c.requires.starts c.requires.element c.last_begun-k.ensures.last
    (sym c.in-Some.ensures) in
    let n = (c.args.element - start.element) / c.standing_count-size.result in
    let within : n < length (displacements c.in-Some.used.now.grid) =
    subst (λ (size : ℕ). (c.args.element - start.element) / size < length (displacements c.in-Some.used.now.grid))
    (sym c.standing_count-size.ensures)
    (element_is_within c.args.library.now c.lawful.ensures c.args.cell.0 c.requires.cell c.args.element c.last_begun-k.result start
    (c.in-Some.id.now, c.in-Some.used.now) above) in
    let fits = position_fits c.args.library.now c.lawful.ensures c.args.cell.0 c.requires.cell c.args.element c.last_begun-k.result n start
    (c.in-Some.id.now, c.in-Some.used.now) above within in
    omega (arith, fits)

pub element_name-requires-clause-lawful : goal.element_name-requires-clause-lawful
element_name-requires-clause-lawful c =
    (use_is_lawful c.args.library.now c.lawful.ensures c.args.cell.0 c.requires.cell c.last_begun-k.result c.in-Some.id.now c.in-Some.used.now
    (sym c.in-Some.ensures)).0.grid

pub element_name-requires-clause-n : goal.element_name-requires-clause-n
element_name-requires-clause-n c =
    let start = get_or c.args.starts.now c.last_begun-k.result no_start in
    subst (λ (size : ℕ). (c.args.element - start.element) / size < length (displacements c.in-Some.used.now.grid))
    (sym c.standing_count-size.ensures)
    (element_is_within c.args.library.now c.lawful.ensures c.args.cell.0 c.requires.cell c.args.element c.last_begun-k.result start
    (c.in-Some.id.now, c.in-Some.used.now)
    (use_above c.args.library.now c.lawful.ensures c.args.cell.0 c.requires.cell c.args.starts.now c.args.element c.last_begun-k.result no_start
    (c.in-Some.id.now, c.in-Some.used.now) c.requires.starts c.requires.element c.last_begun-k.ensures.last (sym c.in-Some.ensures)))

pub unreachable-requires : goal.unreachable-requires
unreachable-requires c =
    let uses = (view_at (seen c.args.library.now) c.args.cell.0).uses in
    let past = none_past uses c.last_begun-k.result (sym c.in-None.ensures) in
    let within = c.last_begun-k.ensures.within in
    let many = c.requires.starts.count in
    omega (arith, past, within, many)

pub returns : goal.returns
returns c =
    let start = get_or c.args.starts.now c.last_begun-k.result no_start in
    let size = c.standing_count-size.result in
    let n = (c.args.element - start.element) / size in
    subst (λ (s : ℕ). IsStepDown c.args.library.now c.args.cell.0 c.args.element (record {
      position = start.position + n;
      id = c.in_ok-element_name-in-Some.field-0;
      child = c.in-Some.used.now.child;
      element = (c.args.element - start.element) % s;
    })) (sym c.standing_count-size.ensures)
    (step_to c.args.library.now c.lawful.ensures c.args.cell.0 c.requires.cell c.args.element c.last_begun-k.result n start
    (c.in-Some.id.now, c.in-Some.used.now) c.in_ok-element_name-in-Some.field-0
    (use_above c.args.library.now c.lawful.ensures c.args.cell.0 c.requires.cell c.args.starts.now c.args.element c.last_begun-k.result no_start
    (c.in-Some.id.now, c.in-Some.used.now) c.requires.starts c.requires.element c.last_begun-k.ensures.last (sym c.in-Some.ensures))
    (ap (λ (s : ℕ). (c.args.element - start.element) / s) c.standing_count-size.ensures) c.in_ok-element_name-in-Some.ensures)
