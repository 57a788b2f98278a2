use Rattle.fault_replay.proofs.Common.{◌≡◌, ◌≤◌, ◌<◌, ◌-◌, List, ℕ, length, All, Level, network_of, IsQuietBut, StepsBy, listed}
use Rattle.fault_replay.proofs.recording.record_steps.Given as goal

abbrev pub invariant-steps : goal.invariant-steps
invariant-steps l = record {
  net : network_of l.net ≡ network_of l.fn.net;
  states : length l.states ≡ l.net.nodes;
  next : length l.next.items ≡ l.net.nodes;
  moved : length l.moved.inside ≡ l.net.nodes;
  few : length l.steps.items ≤ l.most;
  steps : StepsBy (network_of l.fn.net) l.fn.states l.steps.items l.states;
  within : All (λ (changes : List (ℕ × Level)). All (λ (change : ℕ × Level). change.0 < l.fn.net.nodes) changes) l.steps.items;
  quiet : IsQuietBut (network_of l.fn.net) l.states (listed l.moved);
}

abbrev pub decreases-steps : goal.decreases-steps
decreases-steps l = l.most - length l.steps.items
