-- The order of squares: by y and then by x, so row by row from below, and from left to right in a row.
use Rattle.std.specs.Prelude.{◌≡◌, ◌⊎◌, ◌<ℤ◌}
use Rattle.finite_sets.specs.Order.{Lexicographic}
use Rattle.geo_core.specs.declared.squares.Square.{Square}

-- The first square comes before the second.
abbrev pub ComesBefore : Square → Square → Type 0
ComesBefore a b = Lexicographic a.y b.y (a.x <ℤ b.x)

-- The first square comes before the second, or is the same.
abbrev pub ComesNoLater : Square → Square → Type 0
ComesNoLater a b = (a ≡ b) ⊎ ComesBefore a b
