use Rattle.hier_merge.proofs.Common.{◌≡◌, ◌+◌, length, take, AllPairs, AreDisjoint, seen, tree_at, AreSeams, AreVisits}
use Rattle.hier_merge.proofs.interactions.visit_all.Given as goal

-- the visitor stays with the library, the tiles are those of visits of the areas so far, with a step for each, and have seams if these lie apart
abbrev pub invariant-loop-area : goal.invariant-loop-area
invariant-loop-area g l = record {
  same : l.visitor ≡ l.library;
  visits : AreVisits l.library.tech (tree_at (seen l.library) l.cell.0) (take l.area-index l.areas) l.tiles.items;
  steps : l.steps ≡ l.fn.steps + length l.tiles.items;
  seams : AllPairs AreDisjoint l.areas → AreSeams l.tiles.items l.seams.items;
}
