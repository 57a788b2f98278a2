use Rattle.hier_merge.proofs.Common.{◌≡◌, ◌+◌, ◌++◌, drop, numbered_on}
use Rattle.hier_merge.proofs.plane_tiles.numbered_on.Given as goal

abbrev pub invariant-loop-index : goal.invariant-loop-index
invariant-loop-index l =
    l.found.items ++ numbered_on l.tech l.plane (l.start + l.index) (drop l.index l.tiles) ≡ numbered_on l.tech l.plane l.start l.tiles
