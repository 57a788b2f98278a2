use Rattle.steady_state.proofs.Common.{◌≡◌, ◌≤◌, ◌-◌, Steps, NoneRests, AreReadyFor, AreMarked, IsQuiet, network_in}
use Rattle.steady_state.proofs.settling.take_steps.Given as goal

abbrev pub invariant-steps : goal.invariant-steps
invariant-steps l = record {
  reached : Steps (network_in l.net) l.steps l.fn.state l.state;
  none : NoneRests (network_in l.net) l.steps l.fn.state;
  within : l.steps ≤ l.budget;
  same : l.next ≡ l.state;
  marks : AreMarked (network_in l.net) l.marks;
  quiet : IsQuiet (network_in l.net) l.state l.marks.inside;
  strengths : AreReadyFor l.net.nodes l.strengths;
}

abbrev pub decreases-steps : goal.decreases-steps
decreases-steps l = l.budget - l.steps
