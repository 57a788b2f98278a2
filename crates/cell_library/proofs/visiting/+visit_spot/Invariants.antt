use Rattle.cell_library.proofs.Common.{◌-◌, tree_to, seen, standing_at, AreToldTo, spots_under, AreUseTrees}
use Rattle.cell_library.proofs.visiting.+visit_spot.Given as goal

abbrev pub decreases-visit_spot : goal.decreases-visit_spot
decreases-visit_spot l = l.levels

abbrev pub invariant-loop-next : goal.invariant-loop-next
invariant-loop-next l =
    AreUseTrees l.library.tree l.use_trees
    × AreToldTo (tree_to (seen l.library) (l.levels - 1)) l.area (standing_at (seen l.library) l.spot) l.spot.element
    (spots_under l.library.tree l.part_step l.spot) l.next-items l.next-index l.fn.tiles.items l.tiles.items
