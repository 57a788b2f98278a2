-- The elements of lawful uses are displaced within the range of a record.
use Rattle.lawful_trees.proofs.Common.{◌≡◌, ◌<◌, ℕ, ℤ, List, inl, inr, refl, subst, arith, Option, Some, None, unsigned_abs, ints, In, In-map_source}
use Rattle.lawful_trees.proofs.Common.{slice_get-In, Grid, Transform, elements_of, six_of, UseBody, UseElement, array_element, use_elements}
use Rattle.std.specs.Prelude.{slice_get}
use Rattle.geo_core.specs.declared.orients.Orient.{Orient}
use Rattle.geo_core.specs.declared.orients.Orient.TheVariants.{R0}
use Rattle.geo_core.proofs.ImageLaws.{transform_of}
use Rattle.library_trees.specs.CellTree.Uses.{IsLawfulUse, IsShift}
use Rattle.library_trees.specs.CellLibrary.LayoutTrees.{element_transform}
use Rattle.library_trees.proofs.CellLibrary.GridSteps.{IsNearStep, element_is_near}
use Rattle.ext_model.specs.declared.limits.TheConstants.{ELEMENT_EDGE}
use Rattle.ext_model.specs.Lawful.{IsPlacement}

-- The displacement is that of an element of a lawful use.
record IsNearBoth (step : ℤ × ℤ) : Type 0 where
  x : IsNearStep step.0
  y : IsNearStep step.1

-- each element of a lawful use is displaced so
near_step : (id : List ℕ) (used : UseBody) → IsLawfulUse used → (grid : Option Grid) → used.grid ≡ grid → (element : UseElement)
    → In element (use_elements id grid) → IsNearBoth element.step
near_step id used lawful None is element (inl same) =
    subst (λ (e : UseElement). IsNearBoth e.step) same
    (record {
      x = record { low = omega (arith, ints); high = omega (arith, ints) };
      y = record { low = omega (arith, ints); high = omega (arith, ints) };
    })
near_step id used lawful None is element (inr none) = absurd none
near_step id used lawful (Some grid) is element listed =
    let made = In-map_source (array_element id) element (elements_of grid) listed in
    let at = slice_get-In made.0 (elements_of grid) made.1.0 in
    let near = element_is_near grid at.0 made.0 (lawful.grid grid is) at.1 in
    subst (λ (e : UseElement). IsNearBoth e.step) made.1.1 (record { x = near.0; y = near.1 })

-- The transform displaces no farther than a record may have it.
record IsNearTransform (transform : Transform) : Type 0 where
  dx : unsigned_abs transform.dx < ELEMENT_EDGE
  dy : unsigned_abs transform.dy < ELEMENT_EDGE

-- whichever way the use turns its child
near_by_orient : (o : Orient) (dx dy x y : ℤ) → IsShift dx → IsShift dy → IsNearStep x → IsNearStep y
    → IsNearTransform (element_transform (transform_of o dx dy) (x, y))
near_by_orient R0 dx dy x y shift_x shift_y near_x near_y = record {
  dx = omega (arith, ints, shift_x.low, shift_x.high, near_x.low, near_x.high);
  dy = omega (arith, ints, shift_y.low, shift_y.high, near_y.low, near_y.high);
}
near_by_orient _ dx dy x y shift_x shift_y near_x near_y = record {
  dx = omega (arith, ints, shift_x.low, shift_x.high, near_x.low, near_x.high, near_y.low, near_y.high);
  dy = omega (arith, ints, shift_y.low, shift_y.high, near_x.low, near_x.high, near_y.low, near_y.high);
}

-- the transform of an element of a lawful use is one that a record may have
pub element_placement : (id : List ℕ) (used : UseBody) → IsLawfulUse used → (element : UseElement) → In element (use_elements id used.grid)
    → IsPlacement ELEMENT_EDGE (six_of (element_transform used.placed element.step))
element_placement id used lawful element listed =
    let step = near_step id used lawful used.grid refl element listed in
    let near = near_by_orient used.placed.orient used.placed.dx used.placed.dy element.step.0 element.step.1 lawful.dx lawful.dy step.x step.y in
    record { transform = element_transform used.placed element.step; numbers = refl; dx = near.dx; dy = near.dy }
