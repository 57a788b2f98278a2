use Rattle.steady_state.proofs.Common.{◌≡◌, ◌≤◌, ◌+◌, ◌-◌, ◌*◌, ℕ, [], length, slice_index, floors_in, IsOver, network_in, IsWorking, total}
use Rattle.steady_state.proofs.spreading.drain.Given as goal

abbrev pub invariant-nodes : goal.invariant-nodes
invariant-nodes l = record {
  fits : length l.waiting.inside ≡ l.net.nodes;
  working : IsWorking (network_in l.net) l.pass.part.state.now l.pass.kind (IsOver l.pass) (floors_in l.pass.floor) l.best l.waiting.inside [];
  above : (v : ℕ) → slice_index l.fn.best v ≤ slice_index l.best v;
}

abbrev pub decreases-nodes : goal.decreases-nodes
decreases-nodes l = (l.net.nodes * 255 - total l.best) * 2 + l.waiting.count
