use Rattle.steady_state.proofs.Common.{arith, sorted_at}
use Rattle.steady_state.proofs.Wires.{sorted, run_is}
use Rattle.steady_state.proofs.adjacent.switches_at.Goals as goal

pub run_of-requires-clause-node : goal.run_of-requires-clause-node
run_of-requires-clause-node c = rw c.sorted.ensures (let s = sorted c.args.net.now c.args.terminal in omega (arith, s.starts))

pub run_of-requires-clause-rising : goal.run_of-requires-clause-rising
run_of-requires-clause-rising c = rw c.sorted.ensures ((sorted c.args.net.now c.args.terminal).rising c.args.node c.requires)

pub run_of-requires-clause-within : goal.run_of-requires-clause-within
run_of-requires-clause-within c = rw c.sorted.ensures ((sorted c.args.net.now c.args.terminal).within c.args.node c.requires)

pub returns : goal.returns
returns c =
    rw (c.run_of.ensures, c.sorted.ensures)
    (run_is c.args.net.now.nodes c.args.net.now.switches.now c.args.terminal (sorted_at c.args.terminal c.args.net.now) c.args.node
    (sorted c.args.net.now c.args.terminal) c.requires)
