use Rattle.name_classes.proofs.Common.{◌+◌, arith}
use Rattle.name_classes.proofs.JoinLaws.{gives_within, spot_within, adds_one}
use Rattle.name_classes.proofs.joining.join_link.Goals as goal

pub overflow_add-number : goal.overflow_add-number
overflow_add-number c =
    let within = spot_within c.args.names.now (c.args.number + c.args.link.first.step) c.args.link.first.spot c.requires.ends.first in
    omega (arith, within, c.requires.few)

pub overflow_add-number-2 : goal.overflow_add-number-2
overflow_add-number-2 c =
    let within = spot_within c.args.names.now (c.args.number + c.args.link.second.step) c.args.link.second.spot c.requires.ends.second in
    omega (arith, within, c.requires.few)

pub join-requires-clause-a_within : goal.join-requires-clause-a_within
join-requires-clause-a_within c =
    let within = gives_within c.args.names.now c.requires.names (c.args.number + c.args.link.first.step) c.args.link.first.spot c.requires.ends.first
    c.number-first.result c.number-first.ensures in
    omega (arith, within, c.requires.count)

pub join-requires-clause-b_within : goal.join-requires-clause-b_within
join-requires-clause-b_within c =
    let within = gives_within c.args.names.now c.requires.names (c.args.number + c.args.link.second.step) c.args.link.second.spot c.requires.ends.second
    c.number-second.result c.number-second.ensures in
    omega (arith, within, c.requires.count)

pub returns : goal.returns
returns c =
    adds_one c.args.names.now c.args.number c.args.link c.number-first.result c.number-second.result c.args.partition.now c.join.new.self c.join.ensures.len
    c.join.ensures.divides (record { first = c.number-first.ensures; second = c.number-second.ensures })
