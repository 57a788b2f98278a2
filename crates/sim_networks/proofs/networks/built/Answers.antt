use Rattle.sim_networks.proofs.Common.{List, map, length, sym, ap, subst, arith, All, SimFet, Switch, IsWithin, transistor_of, HasTerminals}
use Rattle.sim_networks.proofs.Common.{names_with_nodes}
use Rattle.std.proofs.lemmas.List.{length-map}
use Rattle.sim_networks.proofs.InputLaws.{node_below}
use Rattle.sim_networks.proofs.SwitchLaws.{terminals_known, transistors_long, transistors_within}
use Rattle.sim_networks.proofs.networks.built.Goals as goal

pub switches_of-requires-clause-terminals : goal.switches_of-requires-clause-terminals
switches_of-requires-clause-terminals c =
    let names = c.args.table.now.names.index in
    subst (λ (fets : List SimFet). All (λ fet. HasTerminals names (transistor_of fet)) fets) (sym c.items.ensures)
    (terminals_known c.args.sim.now c.args.table.now c.requires.table)

pub build-requires-clause-few_switches : goal.build-requires-clause-few_switches
build-requires-clause-few_switches c =
    let fets = c.items.result.now in
    let long = transistors_long (names_with_nodes c.args.table.now) (map transistor_of fets) c.in_ok-switches.switches.items
    c.in_ok-switches.ensures in
    let same = ap length c.items.ensures in
    let mapped = length-map fets transistor_of in
    let slice = ap length c.as_slice.ensures.value in
    omega (arith, long, same, mapped, slice, c.requires.few_switches)

pub build-requires-clause-switches_within : goal.build-requires-clause-switches_within
build-requires-clause-switches_within c =
    let table = c.args.table.now in
    subst (λ (switches : List Switch). All (IsWithin table.count) switches) (sym c.as_slice.ensures.value)
    (transistors_within (names_with_nodes table) table.count (map transistor_of c.items.result.now) c.in_ok-switches.switches.items
    (node_below table c.requires.table.is_table) c.in_ok-switches.ensures)
