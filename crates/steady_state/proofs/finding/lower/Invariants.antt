use Rattle.steady_state.proofs.Common.{◌≡◌, length}
use Rattle.steady_state.specs.steps.Lowering.{IsLowered}
use Rattle.steady_state.proofs.finding.lower.Given as goal

abbrev pub invariant-nodes : goal.invariant-nodes
invariant-nodes l = record {
  fits : length l.waiting.inside ≡ length l.best;
  lowered : IsLowered l.order l.floor l.node-index l.fn.best l.best l.waiting.inside;
}
