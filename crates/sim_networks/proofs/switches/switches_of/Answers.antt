use Rattle.sim_networks.proofs.Common.{sym, subst, SimFet, transistor_of, HasTerminals, names_with_nodes}
use Rattle.sim_networks.proofs.SwitchLaws.{switch_added}
use Rattle.sim_networks.proofs.switches.switches_of.Goals as goal

pub switch_of-requires-clause-terminals : goal.switch_of-requires-clause-terminals
switch_of-requires-clause-terminals c =
    let fet = c.fet-item.result in
    subst (λ (one : SimFet). HasTerminals c.args.table.now.names.index (transistor_of one)) (sym c.fet-item.is)
    (c.requires.terminals c.loop-fet.fet-index fet c.loop-fet-test.true)

pub loop-fet-preserved : goal.loop-fet-preserved
loop-fet-preserved c =
    switch_added (names_with_nodes c.args.table.now) c.args.fets.now c.loop-fet.fet-index c.fet-item.result c.loop-fet.switches.items
    c.put.new.items.items
    c.switch_of.result c.loop-fet-test.true c.fet-item.is c.in_ok-put.ensures c.switch_of.ensures c.loop-fet.invariant
