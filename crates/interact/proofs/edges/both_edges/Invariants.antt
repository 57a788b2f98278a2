use Rattle.interact.proofs.Common.{◌≡◌, take, filter, All, flat_map, has_square, edges_of, IsOf64Bits}
use Rattle.interact.proofs.edges.both_edges.Given as goal

-- the edges of the rectangles so far
abbrev pub invariant-loop-rect : goal.invariant-loop-rect
invariant-loop-rect l = record {
  edges : l.found.items ≡ flat_map edges_of (filter has_square (take l.rect-index l.rects));
  fit : All IsOf64Bits l.found.items;
}
