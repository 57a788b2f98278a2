-- The steps of a placed child are its transform.
use Rattle.std.proofs.Common.{◌≡◌, ℤ, [], ◌∷◌, ◌++◌, arith}
use Rattle.geo_core.specs.declared.orients.Orient.{Orient}
use Rattle.geo_core.specs.declared.orients.Orient.TheVariants.{R0, R90, R180, R270, Mx, My, Mx90, My90}
use Rattle.geo_core.specs.declared.transforms.Transform.{Transform}
use Rattle.cif_model.specs.declared.cifs.CifMove.TheVariants.{Shift}
use Rattle.cif_model.specs.Meanings.{moved}
use Rattle.cif_model.specs.Placings.{turning, placing}

moved-of : (orient : Orient) (dx dy : ℤ) → moved (turning orient ++ Shift dx dy ∷ []) ≡ record { orient = orient; dx = dx; dy = dy }
moved-of R0 dx dy = grind arith
moved-of R90 dx dy = grind arith
moved-of R180 dx dy = grind arith
moved-of R270 dx dy = grind arith
moved-of Mx dx dy = grind arith
moved-of My dx dy = grind arith
moved-of Mx90 dx dy = grind arith
moved-of My90 dx dy = grind arith

pub moved-placing : (placed : Transform) → moved (placing placed) ≡ placed
moved-placing placed = moved-of placed.orient placed.dx placed.dy
