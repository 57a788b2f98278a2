use Rattle.fault_replay.proofs.Beside.{listed_below}
use Rattle.fault_replay.proofs.replaying.Replay.look.Goals as goal

pub step_near-requires-clause-nodes : goal.step_near-requires-clause-nodes
step_near-requires-clause-nodes c =
    listed_below c.args.self.now.differing c.nodes.result.now c.args.net.now.nodes c.nodes.ensures c.requires.replay.differing
