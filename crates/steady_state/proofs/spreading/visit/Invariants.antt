use Rattle.steady_state.proofs.Common.{◌≡◌, ◌<◌, ℕ, [], ◌∷◌, length, slice_index, slice_index_or, Switch, floors_in, IsOver, network_in, IsRelaxed}
use Rattle.steady_state.proofs.Common.{IsWorking, IsRaised}
use Rattle.steady_state.proofs.spreading.visit.Given as goal

abbrev pub invariant-switches : goal.invariant-switches
invariant-switches l = record {
  fits : length l.waiting.inside ≡ l.net.nodes;
  working : IsWorking (network_in l.net) l.pass.part.state.now l.pass.kind (IsOver l.pass) (floors_in l.pass.floor) l.best l.waiting.inside (l.node ∷ []);
  raised : IsRaised l.fn.best l.best l.fn.waiting.count l.waiting.count;
  same : slice_index l.best l.node ≡ slice_index l.fn.best l.node;
  relaxed : (i : ℕ) → i < l.place-index → (d : Switch) →
      IsRelaxed l.pass.part.state.now l.pass.kind (IsOver l.pass) (floors_in l.pass.floor) l.best l.side
      (slice_index_or l.net.switches.now (slice_index l.places i) d);
}
