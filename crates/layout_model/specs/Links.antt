-- Which places are linked, and which belong to one node.
use Rattle.std.specs.Prelude.{◌⊎◌, ℕ, Bool, IsTrue}
use Rattle.geo_core.specs.FiniteSets.Chain.{Chain}
use Rattle.layout_model.specs.Places.{Place, AreNeighbours, AreStacked}
use Rattle.layout_model.specs.Layouts.{Layout, IsMaterial}

-- Two places with material are linked if they are edge neighbours on one plane, or one square on two planes, and their
-- types connect. Which types connect is the technology's.
pub record AreLinked (connects : ℕ → ℕ → Bool) (layout : Layout) (a b : Place) : Type 0 where
  pub here : IsMaterial layout a
  pub there : IsMaterial layout b
  pub near : AreNeighbours a b ⊎ AreStacked a b
  pub connected : IsTrue (connects (layout a) (layout b))

-- A chain of links leads from one to the other.
abbrev pub AreOneNode : (ℕ → ℕ → Bool) → Layout → Place → Place → Type 0
AreOneNode connects layout = Chain (AreLinked connects layout)
