use Rattle.steady_state.proofs.Common.{◌≤◌, ◌-◌, false, replicate, Rounds, IsRoundDue, AreReadyFor, AreMarked, network_in}
use Rattle.steady_state.proofs.forcing.force_all.Given as goal

abbrev pub invariant-rounds : goal.invariant-rounds
invariant-rounds l = record {
  reached : Rounds (network_in l.net) l.rounds (replicate l.net.nodes false) l.fn.state l.forced.inside l.state;
  forced : AreMarked (network_in l.net) l.forced;
  few : l.rounds ≤ l.forced.count;
  marks : AreMarked (network_in l.net) l.marks;
  due : IsRoundDue (network_in l.net) l.forced.inside l.state l.next l.marks.inside;
  strengths : AreReadyFor l.net.nodes l.strengths;
}

abbrev pub decreases-rounds : goal.decreases-rounds
decreases-rounds l = l.net.nodes - l.forced.count
