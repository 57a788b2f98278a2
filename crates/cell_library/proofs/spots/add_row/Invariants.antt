use Rattle.cell_library.proofs.Common.{◌+◌, ◌*◌, AddsRow}
use Rattle.cell_library.proofs.spots.add_row.Given as goal

abbrev pub invariant-loop-n : goal.invariant-loop-n
invariant-loop-n l = AddsRow l.from (l.m * l.columns) (l.m * l.columns + l.n) l.fn.found.items l.found.items
