-- What two runs that differ in little are held to.
use Rattle.std.specs.Prelude.{ℕ, List, Contains}
use Rattle.switch_net.specs.declared.switches.Level.{Level}
use Rattle.switch_net.specs.Network.{Network, IsSound}
use Rattle.switch_net.specs.Steady.{IsNextLevel}
use Rattle.switch_net.specs.Vicinity.{IsReached, IsStorage}
use Rattle.replay_laws.specs.Differences.{AreWiredAlike, HoldsDifferences}

-- A storage node of the other network that is in no vicinity of a seed of the differences becomes in a step there what it becomes in one here.
abbrev pub EachNodeFarFromDifferencesTakesTheSameStep : Type 0
EachNodeFarFromDifferencesTakesTheSameStep =
    (net other : Network) (s t : List Level) (seeds : List ℕ) (v : ℕ) (x : Level) → IsSound net → IsSound other → AreWiredAlike net other
    → HoldsDifferences net other s t (Contains seeds) → IsStorage other v → ¬ (IsReached other t seeds v)
    → IsNextLevel net s v x → IsNextLevel other t v x
