use Rattle.hier_merge.proofs.Common.{OffendsOn, HaveTypedParts, parts_of_plane, AreStripsByPlane}
use Rattle.hier_merge.proofs.offending_squares.offending_by_plane.Given as goal

-- the strips so far are those of the planes so far
abbrev pub invariant-loop-plane : goal.invariant-loop-plane
invariant-loop-plane l = (typed : HaveTypedParts l.tech l.tiles) → AreStripsByPlane
    (λ plane. OffendsOn l.tech (parts_of_plane l.tech l.tiles typed.count plane) plane) l.plane l.found.items
