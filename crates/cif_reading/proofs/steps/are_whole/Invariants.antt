use Rattle.cif_reading.proofs.Common.{◌≡◌, drop, true, list_all, move_is_in_range}
use Rattle.cif_reading.specs.SaidSteps.{move_is_whole}
use Rattle.cif_reading.proofs.steps.are_whole.Given as goal

abbrev pub invariant-loop-step : goal.invariant-loop-step
invariant-loop-step l = record {
  range : list_all move_is_in_range (drop l.step-index l.moves) ≡ true;
  rest : list_all (move_is_whole l.scale) (drop l.step-index l.moves) ≡ list_all (move_is_whole l.scale) l.moves;
}
