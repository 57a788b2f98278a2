use Rattle.cell_library.proofs.Common.{◌≡◌, ◌+◌, drop, seen, element_count, view_at}
use Rattle.cell_library.proofs.element_boxes.element_count.Given as goal

-- what was counted and what is left are all
abbrev pub invariant-loop-k : goal.invariant-loop-k
invariant-loop-k l =
    l.count + element_count (drop l.k (view_at (seen l.library) l.cell.0).uses) ≡ element_count (view_at (seen l.library) l.cell.0).uses
