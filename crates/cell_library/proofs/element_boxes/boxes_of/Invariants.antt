use Rattle.cell_library.proofs.Common.{◌≡◌, ◌++◌, drop, hulls_below, size_at, seen, view_at}
use Rattle.cell_library.proofs.element_boxes.boxes_of.Given as goal

-- the boxes so far and those that are left are all
abbrev pub invariant-loop-k : goal.invariant-loop-k
invariant-loop-k l =
    l.boxes.items ++ hulls_below (size_at l.library.tree.sizes) (drop l.k (view_at (seen l.library) l.cell.0).uses)
    ≡ hulls_below (size_at l.library.tree.sizes) (view_at (seen l.library) l.cell.0).uses
