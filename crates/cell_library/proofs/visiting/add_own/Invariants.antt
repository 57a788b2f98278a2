use Rattle.cell_library.proofs.Common.{Rect, seen, standing_at, AddsOwn, IsNearSpot}
use Rattle.cell_library.proofs.visiting.add_own.Given as goal

abbrev pub invariant-loop-plane : goal.invariant-loop-plane
invariant-loop-plane l =
    (area : Rect) → IsNearSpot l.library.tree.sizes l.spot area l.near
    → AddsOwn l.plane (standing_at (seen l.library) l.spot) l.spot.element area l.fn.tiles.items l.tiles.items
