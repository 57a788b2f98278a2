use Rattle.network_runs.proofs.Common.{network_of}
use Rattle.network_runs.proofs.NetworkRunLaws.{outcome_inside, tells_outcome}
use Rattle.network_runs.proofs.network_runs.stack_lines.Goals as goal

pub returns-clause-tells : goal.returns-clause-tells
returns-clause-tells c =
    tells_outcome c.args.budget c.args.n c.args.circuit.now (network_of c.args.named.now.net) c.args.named.now.names c.in_ok-outcome.outcome
    c.in_ok-lines.lines.items c.requires.net c.in_ok-outcome.ensures.outcome c.in_ok-lines.ensures

pub returns-clause-inside : goal.returns-clause-inside
returns-clause-inside c =
    outcome_inside c.args.n c.args.circuit.now c.in_ok-outcome.outcome c.in_ok-lines.lines.items c.in_ok-lines.ensures
