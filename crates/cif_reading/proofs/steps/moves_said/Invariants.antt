use Rattle.cif_reading.proofs.Common.{◌≡◌, ◌++◌, drop, map, true, list_all, move_is_in_range, move_said}
use Rattle.cif_reading.proofs.steps.moves_said.Given as goal

abbrev pub invariant-loop-step : goal.invariant-loop-step
invariant-loop-step l = record {
  range : list_all move_is_in_range (drop l.step-index l.moves) ≡ true;
  rest : l.said.items ++ map (move_said l.scale) (drop l.step-index l.moves) ≡ map (move_said l.scale) l.moves;
}
