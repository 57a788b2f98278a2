use Rattle.name_classes.proofs.Common.{◌≡◌, ◌<◌, List, length, get_or, refl, sym, ◌∙◌, ap, arith, Some, slice_get, slice_get-get_or, slice_get_read}
use Rattle.name_classes.proofs.Common.{slice_get_within, TreeElement}
use Rattle.name_classes.proofs.RecordLaws.{no_element}
use Rattle.name_classes.proofs.EndLaws.{ends_here, joined_next}
use Rattle.name_classes.proofs.joining.joined.Goals as goal
use Rattle.name_classes.proofs.joining.joined.Goals.{In-loop-number}

-- the element of a step
flat_here : (c : In-loop-number) → slice_get c.args.names.now.tree.now.elements c.loop-number.number
    ≡ Some (get_or c.args.elements.now c.loop-number.number no_element)
flat_here c = ap (λ (all : List TreeElement). slice_get all c.loop-number.number) (sym c.requires.elements)
    ∙ slice_get-get_or c.args.elements.now c.loop-number.number no_element c.loop-number-test.true

-- there are links of its record
links_here : (c : In-loop-number) → (get_or c.args.elements.now c.loop-number.number no_element).cell < length c.args.all.now
links_here c =
    let has = c.requires.links.each c.loop-number.number (get_or c.args.elements.now c.loop-number.number no_element) (flat_here c) in
    slice_get_within c.args.all.now _ has.links has.found

pub bounds-all-element : goal.bounds-all-element
bounds-all-element c = links_here (goal.at.bounds-all-element c).In-loop-number

pub offset_bounds-all-element : goal.offset_bounds-all-element
offset_bounds-all-element c = let within = bounds-all-element c in omega (arith, within)

pub join_element-requires-clause-ends : goal.join_element-requires-clause-ends
join_element-requires-clause-ends c = λ link here.
    let at = (goal.at.join_element-requires-clause-ends c).In-loop-number in
    ends_here c.args.names.now c.requires.names c.args.all.now c.requires.links c.loop-number.number link (record {
      flat = get_or c.args.elements.now c.loop-number.number no_element;
      links = c.index-all-element.result;
      stands = flat_here at;
      found = slice_get_read c.args.all.now (length c.args.all.now) _ c.index-all-element.result refl (links_here at) c.index-all-element.is;
      within = here;
    })

pub loop-number-preserved : goal.loop-number-preserved
loop-number-preserved c =
    let at = (goal.at.loop-number-preserved c).In-loop-number in
    let found = slice_get_read c.args.all.now (length c.args.all.now) _ c.index-all-element.result refl (links_here at) c.index-all-element.is in record {
      long = c.join_element.ensures.long ∙ c.loop-number.invariant.long;
      joined = joined_next c.args.names.now c.args.all.now c.loop-number.number _ c.index-all-element.result c.loop-number.partition
          c.join_element.new.partition (flat_here at) found c.loop-number.invariant.joined c.join_element.ensures;
    }
