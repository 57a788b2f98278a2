use Rattle.fault_replay.proofs.Common.{◌≡◌, ◌≤◌, ◌-◌, length, network_of, Network, Steps, IsStep, IsAlong, IsReplayFor}
use Rattle.fault_replay.proofs.replaying.Replay.settle_down.Given as goal

abbrev pub invariant-steps : goal.invariant-steps
invariant-steps l = record {
  replay : IsReplayFor l.net.nodes l.self;
  states : length l.states ≡ l.net.nodes;
  few : l.taken ≤ l.most;
  held : l.self.held ≡ l.fn.self.held;
  good : l.self.good.items ≡ l.fn.self.good.items;
  net : network_of l.net ≡ network_of l.fn.net;
  steps : (good : Network) → IsAlong good (network_of l.fn.net) l.fn.self.held l.fn.self.good.items l.fn.states l.fn.self.differing.inside
      → IsStep good l.fn.self.good.items l.fn.self.good.items → Steps (network_of l.fn.net) l.taken l.fn.states l.states;
  along : (good : Network) → IsAlong good (network_of l.fn.net) l.fn.self.held l.fn.self.good.items l.fn.states l.fn.self.differing.inside
      → IsStep good l.fn.self.good.items l.fn.self.good.items
      → IsAlong good (network_of l.fn.net) l.fn.self.held l.fn.self.good.items l.states l.self.differing.inside;
}

abbrev pub decreases-steps : goal.decreases-steps
decreases-steps l = l.most - l.taken
