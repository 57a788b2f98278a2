use Rattle.circuit_commands.proofs.Common.{sym, subst, rules, IfOk-weaker, with_fets, Passed}
use Rattle.circuit_commands.specs.declared.limits.Limit.{Limit}
use Rattle.circuit_commands.specs.Circuits.{IsSimWritten}
use Rattle.circuit_commands.proofs.WrittenSims.{not_written, sim_written}
use Rattle.circuit_commands.proofs.given.write_given.Goals as goal

pub returns-in-Ok-clause-written : goal.returns-in-Ok-clause-written
returns-in-Ok-clause-written c =
    let given = c.args.circuit in
    IfOk-weaker c.store_sim.result _ _
    (λ written is fets has. (let circuit = with_fets given fets in
    let text = c.in-Ok.ensures.text circuit (sym c.items.ensures) has.draft in
    sim_written c.args.name.now circuit _ _ _ _ written is text.0 text.1 c.in-Ok.ensures.few c.in-Ok.ensures.within has.bare (search rules)))
    c.store_sim.ensures.stored

pub returns-clause-written : goal.returns-clause-written
returns-clause-written c fets has =
    let circuit = with_fets c.args.circuit fets in
    subst (λ (limit : Limit). IsSimWritten c.args.name.now circuit (Passed limit)) (sym c.in_ok-fault_limit-in-Err.ensures.limit)
    (not_written c.args.name.now circuit c.in-Err.fault c.in_ok-fault_limit-in-Err.ensures.passed
    (c.in-Err.ensures.fault circuit (sym c.items.ensures) has.draft))
