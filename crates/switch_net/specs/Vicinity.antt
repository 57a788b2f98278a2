-- The vicinity of a storage node: the storage nodes that a chain of closed or unknown switches joins to it, through storage
-- nodes alone. The node itself is in it, and an input has none.
use Rattle.std.specs.Prelude.{◌≡◌, ℕ, ◌<◌, List, [], ◌∷◌, true, false, Contains}
use Rattle.switch_net.specs.declared.switches.Level.{Level}
use Rattle.switch_net.specs.Network.{Network}
use Rattle.switch_net.specs.Path.{Hop, Joins, is_input, end_of, is_closed_or_unknown}

abbrev pub IsStorage : Network → ℕ → Type 0
IsStorage net v = (v < net.nodes) × (is_input net v ≡ false)

-- a chain from a node, the last hop first, all of whose nodes store charge
abbrev pub IsChain : Network → List Level → ℕ → List Hop → Type 0
IsChain net s n [] = IsStorage net n
IsChain net s n (h ∷ p) =
    IsChain net s n p × Contains net.switches h.through × Joins h.through (end_of n p) h.to × (is_closed_or_unknown s h.through ≡ true)
    × IsStorage net h.to

-- the node v is in the vicinity of n
pub record IsInVicinity (net : Network) (s : List Level) (n v : ℕ) : Type 0 where
  pub chain : List Hop
  pub is_chain : IsChain net s n chain
  pub ends : end_of n chain ≡ v

-- the node is in the vicinity of a node of the list
pub record IsReached (net : Network) (s : List Level) (seeds : List ℕ) (v : ℕ) : Type 0 where
  pub seed : ℕ
  pub is_seed : Contains seeds seed
  pub joined : IsInVicinity net s seed v
