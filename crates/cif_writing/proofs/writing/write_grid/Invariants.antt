use Rattle.cif_writing.proofs.Common.{◌≡◌, ◌++◌, map, drop, Some, text_of, displacements, element_transform, call_command}
use Rattle.cif_writing.proofs.writing.write_grid.Given as goal

-- what stands and the calls that are left are all
abbrev pub invariant-loop-k : goal.invariant-loop-k
invariant-loop-k l =
    l.out.items ++ text_of (map (call_command l.number) (drop l.k (map (element_transform l.placed) (displacements (Some l.grid)))))
    ≡ l.initial.out.items ++ text_of (map (call_command l.number) (map (element_transform l.placed) (displacements (Some l.grid))))
