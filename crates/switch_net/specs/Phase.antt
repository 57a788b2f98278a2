-- A phase: steps until a step changes nothing, at most as many as a budget. If that isn't enough, rounds follow, each of which makes the nodes X that would
-- still change, and holds them there until the phase ends.
use Rattle.std.specs.Prelude.{◌≡◌, ℕ, zero, suc, ◌<◌, ◌≤◌, List, Bool, true, false, ◌⊎◌, replicate, slice_index_or, length}
use Rattle.switch_net.specs.declared.switches.Level.{Level}
use Rattle.switch_net.specs.declared.switches.Level.TheVariants.{X}
use Rattle.switch_net.specs.Network.{Network}
use Rattle.switch_net.specs.Path.{state_of}
use Rattle.switch_net.specs.Steady.{IsNextLevel, IsStep, IsSteadyValue}
use Rattle.switch_net.specs.Vicinity.{IsStorage}

-- n steps lead from the one state to the other
abbrev pub Steps : Network → ℕ → List Level → List Level → Type 0
Steps net zero s t = s ≡ t
Steps net (suc n) s t = (u : List Level) × Steps net n s u × IsStep net u t

-- no state after fewer than n steps is one that a step leaves as it is
abbrev pub NoneRests : Network → ℕ → List Level → Type 0
NoneRests net n s = (m : ℕ) (u : List Level) → m < n → Steps net m s u → ¬ (IsStep net u u)

-- the state after n steps is the first that a step leaves as it is
pub record SettlesAfter (net : Network) (n : ℕ) (s t : List Level) : Type 0 where
  pub reached : Steps net n s t
  pub rests : IsStep net t t
  pub first : NoneRests net n s

-- whether the node is forced
abbrev pub is_forced : List Bool → ℕ → Bool
is_forced forced v = slice_index_or forced v false

-- A round takes the node: it is not forced yet, and a step would change it.
pub record IsTaken (net : Network) (forced : List Bool) (s : List Level) (v : ℕ) : Type 0 where
  pub within : v < net.nodes
  pub free : is_forced forced v ≡ false
  pub moves : ¬ (IsNextLevel net s v (state_of s v))

-- A round takes some nodes: each becomes X, and is forced. All others stay as they are.
pub record IsRound (net : Network) (forced : List Bool) (s : List Level) (more : List Bool) (t : List Level) : Type 0 where
  pub one_state : length t ≡ length s
  pub one_mark : length more ≡ length forced
  pub some : (v : ℕ) × IsTaken net forced s v
  pub taken : (v : ℕ) → IsTaken net forced s v → (state_of t v ≡ X) × (is_forced more v ≡ true)
  pub others : (v : ℕ) → ¬ (IsTaken net forced s v) → (state_of t v ≡ state_of s v) × (is_forced more v ≡ is_forced forced v)

-- so many rounds lead from these forced nodes and states to others
abbrev pub Rounds : Network → ℕ → List Bool → List Level → List Bool → List Level → Type 0
Rounds net zero forced s more t = (more ≡ forced) × (t ≡ s)
Rounds net (suc n) forced s more t = (between : List Bool) × (u : List Level) × Rounds net n forced s between u × IsRound net between u more t

-- Rounds begin with no node forced. After so many of them, none would take a node.
pub record AreForced (net : Network) (rounds : ℕ) (s t : List Level) : Type 0 where
  pub forced : List Bool
  pub reached : Rounds net rounds (replicate net.nodes false) s forced t
  pub over : (v : ℕ) → ¬ (IsTaken net forced t v)

-- The phase from s does not settle within the budget: so many rounds follow its last step, and lead to the state t.
pub record IsUnsettled (net : Network) (budget : ℕ) (s : List Level) (rounds : ℕ) (t : List Level) : Type 0 where
  pub last : List Level
  pub reached : Steps net budget s last
  pub none_rests : NoneRests net (suc budget) s
  pub forced : AreForced net rounds last t

-- how the phase from s ends: settled after n steps within the budget, or unsettled after as many as the budget; in the state t
abbrev pub IsPhase : Network → ℕ → List Level → Bool → ℕ → List Level → Type 0
IsPhase net budget s true n t = SettlesAfter net n s t × (n ≤ budget)
IsPhase net budget s false n t = (n ≡ budget) × (rounds : ℕ) × IsUnsettled net budget s rounds t

-- how many rounds the phase from s takes: none where it settles
abbrev pub HasRounds : Network → ℕ → List Level → Bool → ℕ → List Level → Type 0
HasRounds net budget s true rounds t = rounds ≡ 0
HasRounds net budget s false rounds t = IsUnsettled net budget s rounds t

-- Each storage node has its steady value in these states, or is X. It is so where an unsettled phase ends.
abbrev pub AreSteadyOrX : Network → List Level → Type 0
AreSteadyOrX net s = (v : ℕ) → IsStorage net v → IsSteadyValue net s v (state_of s v) ⊎ (state_of s v ≡ X)
