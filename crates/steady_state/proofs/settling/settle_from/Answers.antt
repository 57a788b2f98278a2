use Rattle.steady_state.proofs.Common.{◌≡◌, sym, subst, IfSome, Network, IsRestedBut}
use Rattle.switch_net.specs.Net.{network_of}
use Rattle.switch_net.specs.Phase.{AreSteadyOrX}
use Rattle.switch_net.proofs.Forcing.{steady_or_x}
use Rattle.steady_state.proofs.settling.settle_from.Goals as goal

pub take_steps-requires-clause-quiet : goal.take_steps-requires-clause-quiet
take_steps-requires-clause-quiet c =
    let net = c.args.net.now in
    let wired : Network = record { nodes = net.nodes; switches = c.items.result.now; sizes = c.items-2.result.now; inputs = c.items-3.result.now } in
    let same : network_of net ≡ wired =
    λ i. record { nodes = net.nodes; switches = sym c.items.ensures i; sizes = sym c.items-2.ensures i; inputs = sym c.items-3.ensures i } in
    c.mark_first.ensures.quiet c.args.state.now
    (subst (λ (one : Network). IfSome c.args.touched (λ nodes. IsRestedBut one c.args.state.now nodes.now)) same c.requires.rested)

pub returns-in-None-clause-steady : goal.returns-in-None-clause-steady
returns-in-None-clause-steady c = λ unsettled.
    let net = c.args.net.now in
    let wired : Network = record { nodes = net.nodes; switches = c.items.result.now; sizes = c.items-2.result.now; inputs = c.items-3.result.now } in
    let same : wired ≡ network_of net =
    λ i. record { nodes = net.nodes; switches = c.items.ensures i; sizes = c.items-2.ensures i; inputs = c.items-3.ensures i } in
    subst (λ (one : Network). AreSteadyOrX one c.force_all.new.state) same
    (steady_or_x wired c.take_steps.new.state c.force_all.new.state c.force_all.result c.force_all.ensures.rounds)
