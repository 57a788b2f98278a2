use Rattle.fault_replay.proofs.Common.{◌≡◌, List, length, drop, Level, network_of, Network, Steps, IsAlong, IsReplayFor, StepsBy}
use Rattle.fault_replay.proofs.replaying.Replay.take_steps.Given as goal

abbrev pub invariant-loop-changes : goal.invariant-loop-changes
invariant-loop-changes l = record {
  replay : IsReplayFor l.net.nodes l.self;
  states : length l.states ≡ l.net.nodes;
  held : l.self.held ≡ l.fn.self.held;
  net : network_of l.net ≡ network_of l.fn.net;
  steps : (good : Network) (t : List Level)
      → IsAlong good (network_of l.fn.net) l.fn.self.held l.fn.self.good.items l.fn.states l.fn.self.differing.inside
      → StepsBy good l.fn.self.good.items l.steps t → Steps (network_of l.fn.net) l.changes-index l.fn.states l.states;
  along : (good : Network) (t : List Level)
      → IsAlong good (network_of l.fn.net) l.fn.self.held l.fn.self.good.items l.fn.states l.fn.self.differing.inside
      → StepsBy good l.fn.self.good.items l.steps t
      → IsAlong good (network_of l.fn.net) l.fn.self.held l.self.good.items l.states l.self.differing.inside;
  later : (good : Network) (t : List Level) → StepsBy good l.fn.self.good.items l.steps t
      → StepsBy good l.self.good.items (drop l.changes-index l.steps) t;
}
