-- Strips of sets of squares on several planes.
use Rattle.std.specs.Prelude.{◌≡◌, ℕ, zero, suc, List, [], ◌++◌, map}
use Rattle.geo_core.specs.declared.squares.Square.{Square}
use Rattle.geo_core.specs.declared.squares.Rect.{Rect}
use Rattle.geo_core.specs.Strips.{IsStrips}

-- These are the strips of the sets of so many planes from this one on: plane by plane, and on each plane in order.
abbrev pub AreStripsFrom : (ℕ → Square → Type 0) → ℕ → ℕ → List (ℕ × Rect) → Type 0
AreStripsFrom Set plane zero found = found ≡ []
AreStripsFrom Set plane (suc count) found =
    (strips : List Rect) × (rest : List (ℕ × Rect)) × (found ≡ map (λ area. (plane, area)) strips ++ rest) × IsStrips (Set plane) strips
    × AreStripsFrom Set (suc plane) count rest

-- the same of the first planes
abbrev pub AreStripsByPlane : (ℕ → Square → Type 0) → ℕ → List (ℕ × Rect) → Type 0
AreStripsByPlane Set count found = AreStripsFrom Set 0 count found
