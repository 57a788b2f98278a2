-- How a placed child is written as steps of a call.
use Rattle.std.specs.Prelude.{List, [], ◌∷◌, ◌++◌}
use Rattle.geo_core.specs.declared.orients.Orient.{Orient}
use Rattle.geo_core.specs.declared.orients.Orient.TheVariants.{R0, R90, R180, R270, Mx, My, Mx90, My90}
use Rattle.geo_core.specs.declared.transforms.Transform.{Transform}
use Rattle.cif_model.specs.declared.cifs.CifMove.{CifMove}
use Rattle.cif_model.specs.declared.cifs.CifMove.TheVariants.{Shift, MirrorX, Turn}

-- an orientation as steps: x is turned round where the orientation is no turn, and then the rest is one
abbrev pub turning : Orient → List CifMove
turning R0 = []
turning R90 = Turn 1 ∷ []
turning R180 = Turn 2 ∷ []
turning R270 = Turn 3 ∷ []
turning My = MirrorX ∷ []
turning My90 = MirrorX ∷ Turn 1 ∷ []
turning Mx = MirrorX ∷ Turn 2 ∷ []
turning Mx90 = MirrorX ∷ Turn 3 ∷ []

-- a transform as steps: turned first, and then shifted
abbrev pub placing : Transform → List CifMove
placing placed = turning placed.orient ++ Shift placed.dx placed.dy ∷ []
