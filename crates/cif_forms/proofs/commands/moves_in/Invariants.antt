use Rattle.cif_forms.proofs.Common.{◌≡◌, ◌++◌, length, goes_on, moves_in}
use Rattle.cif_forms.proofs.commands.moves_in.Given as goal

abbrev pub invariant-loop-step : goal.invariant-loop-step
invariant-loop-step l = record {
  moves : l.moves.items ++ moves_in l.rest ≡ moves_in l.words;
  more : goes_on l.rest ≡ goes_on l.words;
}

abbrev pub decreases-loop-step : goal.decreases-loop-step
decreases-loop-step l = length l.rest
