-- The paths of a kind, and the strongest of them to a node.
use Rattle.std.specs.Prelude.{◌≡◌, ◌≢◌, ℕ, ◌<◌, ◌≤◌, List, Bool}
use Rattle.switch_net.specs.declared.switches.Level.{Level}
use Rattle.switch_net.specs.declared.switches.Switch.{Switch}
use Rattle.switch_net.specs.Network.{Network}
use Rattle.switch_net.specs.Path.{Hop, IsPath, IsDefinite, IsBlocked, strength, state_of, end_of, is_closed, is_closed_or_unknown}
use Rattle.steady_state.specs.declared.kinds.PathKind.{PathKind}
use Rattle.steady_state.specs.declared.kinds.PathKind.TheVariants.{Definite, FromOther}
use Rattle.steady_state.specs.steps.Strongest.{IsStrongestDefinite}

-- a definite path, or an unblocked path from a root in another state than this
abbrev pub IsOfKind : Network → List Level → PathKind → ℕ → List Hop → Type 0
IsOfKind net s Definite root p = IsPath net s root p × IsDefinite s p
IsOfKind net s (FromOther level) root p = IsPath net s root p × (¬ (IsBlocked net s root p)) × (state_of s root ≢ level)

-- whether paths of the kind go through the switch
abbrev pub goes_through : List Level → PathKind → Switch → Bool
goes_through s Definite switch = is_closed s switch
goes_through s (FromOther level) switch = is_closed_or_unknown s switch

-- paths of the kind may begin at the node
abbrev pub BeginsAt : List Level → PathKind → ℕ → Type 0
BeginsAt s Definite v = Unit {0}
BeginsAt s (FromOther level) v = state_of s v ≢ level

-- no path of the kind to the node is weaker than this
abbrev pub IsFloor : Network → List Level → PathKind → ℕ → ℕ → Type 0
IsFloor net s Definite v k = k ≡ 0
IsFloor net s (FromOther level) v k = IsStrongestDefinite net s v k

-- a path of the kind to the node has this strength
pub record HasPath (net : Network) (s : List Level) (kind : PathKind) (v k : ℕ) : Type 0 where
  pub root : ℕ
  pub path : List Hop
  pub of_kind : IsOfKind net s kind root path
  pub ends : end_of root path ≡ v
  pub is_strength : strength net root path ≡ k

-- the greatest strength of a path of the kind to the node, and 0 where there is none
pub record IsStrongestOfKind (net : Network) (s : List Level) (kind : PathKind) (v k : ℕ) : Type 0 where
  pub attained : 0 < k → HasPath net s kind v k
  pub bound : (j : ℕ) → HasPath net s kind v j → j ≤ k
