-- How far the elements of lawful grids are displaced, and where elements are placed.
use Rattle.plain_records.proofs.Common.{◌≡◌, ℤ, List, ◌∷◌, refl, ◌∙◌, ap, subst, arith, ints, In, Grid, elements_of, IsShortStep}
use Rattle.std.proofs.Common.{pos}
use Rattle.geo_core.specs.Elements.{IsLawful}
use Rattle.geo_core.specs.Images.{identity, six_of}
use Rattle.ext_model.specs.declared.limits.TheConstants.{SHIFT_EDGE}
use Rattle.ext_model.specs.Lawful.{IsPlacement}
use Rattle.ext_model.proofs.NearSteps.{element_placement}

-- the place at which a cell stands as it is
still : IsPlacement SHIFT_EDGE (six_of identity)
still = record { transform = identity; numbers = refl; dx = omega arith; dy = omega arith }

abbrev dx_of : List ℤ → ℤ
dx_of (a ∷ b ∷ c ∷ rest) = c
dx_of six = pos 0

abbrev dy_of : List ℤ → ℤ
dy_of (a ∷ b ∷ c ∷ d ∷ e ∷ f ∷ rest) = f
dy_of six = pos 0

-- the elements of a lawful grid are displaced by short steps
pub short_steps : (grid : Grid) → IsLawful grid → (element : ℤ × ℤ × ℤ × ℤ) → In element (elements_of grid)
    → IsShortStep element.2 × IsShortStep element.3
short_steps grid lawful element here =
    let placed = element_placement (six_of identity) grid still lawful element here in
    let x : placed.transform.dx ≡ element.2 = ap dx_of placed.numbers ∙ omega (arith, ints) in
    let y : placed.transform.dy ≡ element.3 = ap dy_of placed.numbers ∙ omega (arith, ints) in
    (subst IsShortStep x placed.dx, subst IsShortStep y placed.dy)
