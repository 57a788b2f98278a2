use Rattle.element_paths.proofs.Common.{◌≡◌, ◌≤◌, ℕ, List, [], length, map, ap, sym, Some, ◌∙◌, arith, slice_get, option_map, length-map, take_all}
use Rattle.element_paths.proofs.Common.{slice_get-map, slice_get_within, six_of, UseBody, seen, view_at, use_is_lawful, library_use, library_uses}
use Rattle.ext_model.specs.declared.arrays.ArrayUse.{ArrayUse}
use Rattle.element_paths.proofs.RecordLaws.{added_on, few_uses}
use Rattle.element_paths.proofs.StartLaws.{none_past}
use Rattle.element_paths.proofs.recorded_uses.use_records.Goals as goal

pub name_of-requires : goal.name_of-requires
name_of-requires c =
    (use_is_lawful c.args.library.now c.lawful.ensures c.args.cell.0 c.requires c.loop-id.k c.in-Some.id.now c.in-Some.used.now
    (sym c.in-Some.ensures)).1

pub overflow_add-k : goal.overflow_add-k
overflow_add-k c =
    let few = few_uses c.args.library.now c.lawful.ensures c.args.cell.0 c.requires in
    let within = slice_get_within (view_at (seen c.args.library.now) c.args.cell.0).uses c.loop-id.k (c.in-Some.id.now, c.in-Some.used.now)
    (sym c.in-Some.ensures) in
    omega (arith, few, within)

pub loop-id-smaller : goal.loop-id-smaller
loop-id-smaller c =
    let within = slice_get_within (view_at (seen c.args.library.now) c.args.cell.0).uses c.loop-id.k (c.in-Some.id.now, c.in-Some.used.now)
    (sym c.in-Some.ensures) in
    omega (arith, within)

pub loop-id-preserved : goal.loop-id-preserved
loop-id-preserved c =
    let view = seen c.args.library.now in
    let uses : List (List ℕ × UseBody) = (view_at view c.args.cell.0).uses in
    let entry : List ℕ × UseBody = (c.in-Some.id.now, c.in-Some.used.now) in
    let at : slice_get (library_uses view c.args.cell.0) c.loop-id.k ≡ Some (library_use view entry) =
    slice_get-map (library_use view) uses c.loop-id.k ∙ ap (option_map (library_use view)) (sym c.in-Some.ensures) in
    let made : ArrayUse = c.in_ok-record.record in
    let named : c.name_of.result.now ≡ (view_at view c.in-Some.used.now.child.0).name = c.name_of.ensures in
    let full : made
    ≡ record {
      cell = c.name_of.result.now;
      id = c.in-Some.id.now;
      six = six_of c.in-Some.used.now.placed;
      grid = c.in-Some.used.now.grid;
    } = c.in_ok-record.ensures in
    let same : made ≡ library_use view entry =
    full
    ∙ (λ i. record {
      cell = named i;
      id = c.in-Some.id.now;
      six = six_of c.in-Some.used.now.placed;
      grid = c.in-Some.used.now.grid;
    }) in
    added_on (library_uses view c.args.cell.0) c.loop-id.k made [] c.loop-id.records.items c.push.new.self.items (at ∙ ap Some (sym same))
    c.loop-id.invariant c.in_ok-push.ensures.items

pub returns : goal.returns
returns c =
    let view = seen c.args.library.now in
    let uses : List (List ℕ × UseBody) = (view_at view c.args.cell.0).uses in
    let past : length uses ≤ c.loop-id.k = none_past uses c.loop-id.k (sym c.in_default.ensures) in
    c.loop-id.invariant ∙ take_all c.loop-id.k (library_uses view c.args.cell.0) (omega (arith, past, length-map uses (library_use view)))
