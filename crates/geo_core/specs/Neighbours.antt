-- The squares that share an edge with a square. Squares that share a corner alone are no neighbours.
use Rattle.std.specs.Prelude.{◌≡◌, ◌⊎◌, ℤ, pos, ◌+ℤ◌, ◌-ℤ◌, List, [], ◌∷◌}
use Rattle.geo_core.specs.declared.squares.Square.{Square}

-- one is the other plus 1
abbrev pub AreOneApart : ℤ → ℤ → Type 0
AreOneApart m n = (n ≡ m +ℤ pos 1) ⊎ (m ≡ n +ℤ pos 1)

-- The two squares share an edge: they are side by side in one row, or one upon the other in one column.
abbrev pub AreEdgeNeighbours : Square → Square → Type 0
AreEdgeNeighbours a b = (AreOneApart a.x b.x × (a.y ≡ b.y)) ⊎ ((a.x ≡ b.x) × AreOneApart a.y b.y)

-- the neighbour to the right
abbrev pub right_of : Square → Square
right_of square = record { x = square.x +ℤ pos 1; y = square.y }

-- the neighbour to the left
abbrev pub left_of : Square → Square
left_of square = record { x = square.x -ℤ pos 1; y = square.y }

-- the neighbour above
abbrev pub above : Square → Square
above square = record { x = square.x; y = square.y +ℤ pos 1 }

-- the neighbour below
abbrev pub below : Square → Square
below square = record { x = square.x; y = square.y -ℤ pos 1 }

-- The four edge neighbours of a square, for sums over them.
abbrev pub edge_neighbours : Square → List Square
edge_neighbours square = right_of square ∷ left_of square ∷ above square ∷ below square ∷ []
