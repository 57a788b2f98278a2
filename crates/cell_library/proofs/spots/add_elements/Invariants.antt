use Rattle.cell_library.proofs.Common.{◌*◌, CanBeDropped, spots_to, AddsSpots}
use Rattle.cell_library.proofs.spots.add_elements.Given as goal

abbrev pub invariant-loop-m : goal.invariant-loop-m
invariant-loop-m l = AddsSpots (CanBeDropped l.from) (spots_to l.from (l.m * l.columns)) l.fn.found.items l.found.items
