-- How far an element of an array may be displaced.
use Rattle.std.specs.Prelude.{ℤ, ◌<◌}
use Rattle.std.specs.Int.RustNames.{unsigned_abs}
use Rattle.ext_model.specs.declared.limits.TheConstants.{ELEMENT_EDGE}

-- less than the displacements of elements
abbrev pub IsShortStep : ℤ → Type 0
IsShortStep z = unsigned_abs z < ELEMENT_EDGE
