use Rattle.plain_records.proofs.Common.{◌≡◌, to_z, of_z, w64, sym, ap, subst, ◌∙◌, rules, option_map, to_z-of_z, slice_get-map, In-slice_get}
use Rattle.plain_records.proofs.Common.{elements_of, UseRec, element_use, IsShortStep}
use Rattle.std.proofs.Common.{Some}
use Rattle.ext_model.specs.ElementNames.{indexed_name}
use Rattle.ext_model.specs.Plain.{displaced}
use Rattle.plain_records.proofs.StepLaws.{short_steps}
use Rattle.plain_records.proofs.uses.element_at.Goals as goal

pub displaced-requires-clause-dx : goal.displaced-requires-clause-dx
displaced-requires-clause-dx c =
    let element = c.element-i.result in
    let kept : to_z w64 (of_z w64 element.2) ≡ element.2 = to_z-of_z w64 element.2 (search rules) in
    let steps = short_steps c.args.grid.now c.requires.lawful element (In-slice_get (elements_of c.args.grid.now) c.args.k element c.element-i.ensures.nth) in
    subst IsShortStep (sym kept) steps.0

pub displaced-requires-clause-dy : goal.displaced-requires-clause-dy
displaced-requires-clause-dy c =
    let element = c.element-i.result in
    let kept : to_z w64 (of_z w64 element.3) ≡ element.3 = to_z-of_z w64 element.3 (search rules) in
    let steps = short_steps c.args.grid.now c.requires.lawful element (In-slice_get (elements_of c.args.grid.now) c.args.k element c.element-i.ensures.nth) in
    subst IsShortStep (sym kept) steps.1

pub returns : goal.returns
returns c =
    let element = c.element-i.result in
    let used = c.args.used.now in
    let i : to_z w64 (of_z w64 element.0) ≡ element.0 = to_z-of_z w64 element.0 (search rules) in
    let j : to_z w64 (of_z w64 element.1) ≡ element.1 = to_z-of_z w64 element.1 (search rules) in
    let x : to_z w64 (of_z w64 element.2) ≡ element.2 = to_z-of_z w64 element.2 (search rules) in
    let y : to_z w64 (of_z w64 element.3) ≡ element.3 = to_z-of_z w64 element.3 (search rules) in
    let id : c.in_ok-of.field-0 ≡ indexed_name used.id element.0 element.1 =
    c.in_ok-of.ensures ∙ c.as_slice.ensures.value ∙ c.in_ok-id.ensures ∙ (λ k. indexed_name (c.bytes.ensures k) (i k) (j k)) in
    let six : c.displaced.result ≡ displaced used.six element.2 element.3 = c.displaced.ensures ∙ (λ k. displaced used.six (x k) (y k)) in
    let one : record { cell = c.in_ok-copy.field-0; id = c.in_ok-of.field-0; six = c.displaced.result } ≡ element_use used element =
    (λ k. record { cell = c.in_ok-copy.ensures k; id = id k; six = six k }) in
    slice_get-map (element_use used) (elements_of c.args.grid.now) c.args.k ∙ ap (option_map (element_use used)) c.element-i.ensures.nth
    ∙ ap (λ (z : UseRec). Some z) (sym one)
