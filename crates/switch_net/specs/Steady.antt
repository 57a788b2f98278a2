-- The steady value of a node, and a step of a network.
use Rattle.std.specs.Prelude.{◌≡◌, ℕ, ◌<◌, List, true, false, length}
use Rattle.switch_net.specs.declared.switches.Level.{Level}
use Rattle.switch_net.specs.declared.switches.Level.TheVariants.{Zero, One, X}
use Rattle.switch_net.specs.Network.{Network}
use Rattle.switch_net.specs.Path.{Hop, IsUnblockedTo, state_of, is_input}

-- every unblocked path to the node has a root in this state
abbrev pub AllRootsAre : Network → List Level → ℕ → Level → Type 0
AllRootsAre net s v x = (root : ℕ) (path : List Hop) → IsUnblockedTo net s v root path → state_of s root ≡ x

-- the steady value of a storage node: one or zero where all those roots are at it, and else X
abbrev pub IsSteadyValue : Network → List Level → ℕ → Level → Type 0
IsSteadyValue net s v One = AllRootsAre net s v One
IsSteadyValue net s v Zero = AllRootsAre net s v Zero
IsSteadyValue net s v X = (¬ (AllRootsAre net s v One)) × (¬ (AllRootsAre net s v Zero))

-- the state of a node after a step: an input keeps its state, and a storage node has its steady value
pub record IsNextLevel (net : Network) (s : List Level) (v : ℕ) (x : Level) : Type 0 where
  pub input : is_input net v ≡ true → x ≡ state_of s v
  pub storage : is_input net v ≡ false → IsSteadyValue net s v x

-- the states after one step, in which gates and roots are in their old states
pub record IsStep (net : Network) (old new : List Level) : Type 0 where
  pub same_length : length new ≡ length old
  pub each : (v : ℕ) → v < net.nodes → IsNextLevel net old v (state_of new v)
