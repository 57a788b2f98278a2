use Rattle.hier_merge.proofs.Common.{◌≡◌, ◌++◌, map, drop}
use Rattle.hier_merge.proofs.plane_pieces.add_strips.Given as goal

abbrev pub invariant-loop-area : goal.invariant-loop-area
invariant-loop-area l =
    l.found.items ++ map (λ area. (l.plane, area)) (drop l.area-index l.strips) ≡ l.fn.found.items ++ map (λ area. (l.plane, area)) l.strips
