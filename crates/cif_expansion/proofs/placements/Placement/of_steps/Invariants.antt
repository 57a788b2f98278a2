use Rattle.cif_expansion.proofs.Common.{◌≡◌, ◌*◌, ◌^◌, take, moved, MovesWithin}
use Rattle.cif_expansion.proofs.placements.Placement.of_steps.Given as goal

abbrev pub invariant-loop-step : goal.invariant-loop-step
invariant-loop-step l = record {
  value : l.placement ≡ moved (take l.step-index l.steps);
  near : MovesWithin (l.step-index * 2 ^ 53) l.placement;
}
