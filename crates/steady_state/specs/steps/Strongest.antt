-- The strongest definite path to a node.
use Rattle.std.specs.Prelude.{ℕ, ◌≤◌, List}
use Rattle.switch_net.specs.declared.switches.Level.{Level}
use Rattle.switch_net.specs.Network.{Network}
use Rattle.switch_net.specs.Path.{DefiniteTo}

-- a definite path to the node has this strength, and none has more
pub record IsStrongestDefinite (net : Network) (s : List Level) (v k : ℕ) : Type 0 where
  pub attained : DefiniteTo net s v k
  pub bound : (j : ℕ) → DefiniteTo net s v j → j ≤ k
