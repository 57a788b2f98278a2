use Rattle.flatten.proofs.Common.{◌<◌, length, rules, arith, refl, slice_get_within, name_in, element_at}
use Rattle.flatten.proofs.LabelLaws.{label_read}
use Rattle.flatten.proofs.SpotLaws.{has_spot, has_name_at}
use Rattle.flatten.proofs.labels.node_of.Goals as goal
use Rattle.flatten.proofs.labels.node_of.Goals.{After-number}

pub number-requires-clause-spot : goal.number-requires-clause-spot
number-requires-clause-spot c = has_spot c.args.names.now c.requires.names c.args.element c.requires.element c.args.spot c.requires.spot

-- the number is that of a label
inside : (c : After-number) → c.number.result < length c.args.labels.now
inside c =
    let are = c.requires.names in
    let at = has_name_at c.args.names.now are c.args.element c.requires.element c.args.spot c.number.result c.number.ensures are.list are.is_list
    c.requires.spot.0 c.requires.spot.1 in
    omega (arith, slice_get_within are.list c.number.result _ at, c.requires.long are.list are.is_list)

pub bounds-labels-number : goal.bounds-labels-number
bounds-labels-number c = inside (goal.at.bounds-labels-number c).After-number

pub offset_bounds-labels-number : goal.offset_bounds-labels-number
offset_bounds-labels-number c = let within = inside (goal.at.offset_bounds-labels-number c).After-number in search rules

pub returns-clause-node : goal.returns-clause-node
returns-clause-node c list is_list name is_spot =
    let are = c.requires.names in
    let at = has_name_at c.args.names.now are c.args.element c.requires.element c.args.spot c.number.result c.number.ensures list is_list name is_spot in
    label_read list c.args.labels.now c.number.result (name_in (element_at c.args.names.now c.args.element) name) is_list.in_order
    (c.requires.long list is_list) at

pub returns-clause-label : goal.returns-clause-label
returns-clause-label c = (c.number.result, (inside (goal.at.returns-clause-label c).After-number, refl))
