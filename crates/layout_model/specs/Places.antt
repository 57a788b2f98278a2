-- Places of a layout: each is a square of one plane.
use Rattle.std.specs.Prelude.{◌≡◌, ◌≢◌, ◌⊎◌, ℕ, ◌<◌, List, map}
use Rattle.geo_core.specs.declared.squares.Square.{Square}
use Rattle.geo_core.specs.Neighbours.{AreEdgeNeighbours, edge_neighbours}
use Rattle.geo_core.specs.SquareOrder.{ComesBefore}

-- a square of one plane
pub record Place : Type 0 where
  pub plane : ℕ
  pub square : Square

-- The squares of the two places share an edge, on one plane.
abbrev pub AreNeighbours : Place → Place → Type 0
AreNeighbours a b = (a.plane ≡ b.plane) × AreEdgeNeighbours a.square b.square

-- One square on two planes.
abbrev pub AreStacked : Place → Place → Type 0
AreStacked a b = (a.plane ≢ b.plane) × (a.square ≡ b.square)

-- The four edge neighbours of a place, all on its own plane, for sums over them.
abbrev pub neighbours : Place → List Place
neighbours place = map (λ square. record { plane = place.plane; square = square }) (edge_neighbours place.square)

-- The order of places: by plane, then y, then x.
abbrev pub IsBefore : Place → Place → Type 0
IsBefore a b = (a.plane < b.plane) ⊎ ((a.plane ≡ b.plane) × ComesBefore a.square b.square)

-- the same place, or one before
abbrev pub IsNoLater : Place → Place → Type 0
IsNoLater a b = (a ≡ b) ⊎ IsBefore a b
