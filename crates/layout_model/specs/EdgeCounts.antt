-- Unit edges from one set of places to another.
use Rattle.std.specs.Prelude.{ℤ, pos}
use Rattle.geo_core.specs.FiniteSets.Total.{Total}
use Rattle.layout_model.specs.Places.{Place, AreNeighbours}

-- An edge from a place of the first set to a neighbour in the second.
pub record LeadsAcross (From To : Place → Type 0) (edge : Place × Place) : Type 0 where
  pub from : From edge.0
  pub to : To edge.1
  pub near : AreNeighbours edge.0 edge.1

-- how many unit edges lead from places of the first set to neighbours in the second
abbrev pub IsEdgeCount : (Place → Type 0) → (Place → Type 0) → ℤ → Type 0
IsEdgeCount From To count = Total (LeadsAcross From To) (λ edge. pos 1) count
