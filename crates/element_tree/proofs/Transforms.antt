-- The transforms of uses: what their six numbers make them, and how far they move.
use Rattle.element_tree.proofs.Common.{◌≡◌, ℕ, ◌<◌, ◌≤◌, ◌+◌, List, refl, sym, ◌∙◌, ap, subst, arith, Square, LONGEST_CHAIN, MovesByAtMost}
use Rattle.std.proofs.Common.{◌*◌, ℤ, pos, neg_ℤ, ◌≤ℤ◌}
use Rattle.std.specs.Int.RustNames.{unsigned_abs}
use Rattle.std.proofs.lemmas.Cmp.{int_eq_equiv}
use Rattle.std.proofs.lemmas.Int.{ints}
use Rattle.geo_core.specs.declared.orients.Orient.{Orient}
use Rattle.geo_core.specs.declared.orients.Orient.TheVariants.{R0}
use Rattle.geo_core.specs.declared.transforms.Transform.{Transform}
use Rattle.geo_core.specs.Images.{image, six_of, composed, identity}
use Rattle.geo_core.specs.Reach.{MovesInReach}
use Rattle.geo_core.proofs.SquareLaws.{square_is}
use Rattle.geo_core.proofs.ImageLaws.{image-moved}
use Rattle.ext_model.specs.declared.limits.TheConstants.{ELEMENT_EDGE}
use Rattle.ext_model.specs.Lawful.{IsPlacement}
use Rattle.circuit_model.specs.Elements.{transform_of}

-- the transform of these parts
abbrev transform : Orient → ℤ → ℤ → Transform
transform o dx dy = record { orient = o; dx = dx; dy = dy }

by_orient : (o : Orient) (dx dy : ℤ) → transform_of (six_of (transform o dx dy)) ≡ transform o dx dy
unfolding transform_of
by_orient R0 dx dy = rw (int_eq_equiv.refl dx, int_eq_equiv.refl dy) refl
by_orient _ dx dy = rw (int_eq_equiv.refl dx, int_eq_equiv.refl dy) refl

-- the six numbers of a transform make it again
pub transform_of-six : (t : Transform) → transform_of (six_of t) ≡ t
transform_of-six t = by_orient t.orient t.dx t.dy

composed_by_orient : (i o : Orient) (dx dy ex ey : ℤ) (n : ℕ) → MovesByAtMost 1 (transform i dx dy) → MovesByAtMost n (transform o ex ey)
    → MovesByAtMost (n + 1) (composed (transform i dx dy) (transform o ex ey))
composed_by_orient i R0 dx dy ex ey n h k = record {
  left = omega (arith, ints);
  right = omega (arith, ints);
  down = omega (arith, ints);
  up = omega
      (arith, ints);
}
composed_by_orient i _ dx dy ex ey n h k = record {
  left = omega (arith, ints);
  right = omega (arith, ints);
  down = omega (arith, ints);
  up = omega
      (arith, ints);
}

-- one more use moves by one more displacement at most
pub composed_moves : (inner outer : Transform) (n : ℕ) → MovesByAtMost 1 inner → MovesByAtMost n outer → MovesByAtMost (n + 1) (composed inner outer)
composed_moves inner outer n h k = composed_by_orient inner.orient outer.orient inner.dx inner.dy outer.dx outer.dy n h k

-- what moves by no more displacements than a chain has stays within reach
pub reach_from_count : (t : Transform) (n : ℕ) → n ≤ LONGEST_CHAIN → MovesByAtMost n t → MovesInReach t
reach_from_count t n few h = record { dx = (omega (arith, ints), omega (arith, ints)); dy = (omega (arith, ints), omega (arith, ints)) }

at_most_edge : (z : ℤ) → unsigned_abs z < ELEMENT_EDGE → (neg_ℤ (pos (1 * ELEMENT_EDGE)) ≤ℤ z) × (z ≤ℤ pos (1 * ELEMENT_EDGE))
at_most_edge (pos n) h = (omega (arith, ints), omega (arith, ints))
at_most_edge _ h = (omega (arith, ints), omega (arith, ints))

-- a lawful use moves by one displacement at most
pub placement_moves : (six : List ℤ) → IsPlacement ELEMENT_EDGE six → MovesByAtMost 1 (transform_of six)
placement_moves six h =
    let across = at_most_edge h.transform.dx h.dx in
    let upward = at_most_edge h.transform.dy h.dy in
    let moves : MovesByAtMost 1 h.transform = record { left = across.0; right = across.1; down = upward.0; up = upward.1 } in
    subst (MovesByAtMost 1) (sym (transform_of-six h.transform) ∙ ap transform_of h.numbers) moves

-- the identity leaves squares where they are
pub image-identity : (s : Square) → image identity s ≡ s
image-identity s = image-moved identity s ∙ square_is _ _ (omega (arith, ints)) (omega (arith, ints))

-- and doesn't move
pub identity_moves : MovesByAtMost 0 identity
identity_moves = record { left = omega (arith, ints); right = omega (arith, ints); down = omega (arith, ints); up = omega (arith, ints) }
