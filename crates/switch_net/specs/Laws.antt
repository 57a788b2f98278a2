-- Laws over the definitions alone.
use Rattle.std.specs.Prelude.{◌≡◌, ◌≢◌, ℕ, ◌<◌, ◌≤◌, List, Bool, false, length, Contains}
use Rattle.finite_sets.specs.Lists.{Distinct}
use Rattle.switch_net.specs.declared.switches.Level.{Level}
use Rattle.switch_net.specs.declared.switches.Switch.{Switch}
use Rattle.switch_net.specs.Network.{Network, IsSound}
use Rattle.switch_net.specs.Path.{Hop, IsPath, IsDefinite, IsBlocked, strength, state_of, end_of, nodes_of}
use Rattle.switch_net.specs.Phase.{AreForced, AreSteadyOrX, HasRounds, IsPhase}
use Rattle.switch_net.specs.Steady.{IsSteadyValue, IsNextLevel, IsStep}
use Rattle.switch_net.specs.Vicinity.{IsStorage, IsReached}

-- a path from the same root to the same end with no node twice, no less strong, and definite and unblocked where the first is
pub record HasSimplePath (net : Network) (s : List Level) (root : ℕ) (path : List Hop) : Type 0 where
  pub simple : List Hop
  pub is_path : IsPath net s root simple
  pub no_repeat : Distinct (nodes_of root simple)
  pub same_end : end_of root simple ≡ end_of root path
  pub as_strong : strength net root path ≤ strength net root simple
  pub stays_definite : IsDefinite s path → IsDefinite s simple
  pub stays_unblocked : ¬ (IsBlocked net s root path) → ¬ (IsBlocked net s root simple)

abbrev pub EachHasSimplePath : Type 0
EachHasSimplePath = (net : Network) (s : List Level) (root : ℕ) (path : List Hop) → IsPath net s root path → HasSimplePath net s root path

abbrev pub EachHasOneSteadyValue : Type 0
EachHasOneSteadyValue =
    (net : Network) (s : List Level) (v : ℕ) (x y : Level) → IsSound net → v < net.nodes → IsSteadyValue net s v x → IsSteadyValue net s v y → x ≡ y

-- rounds from one state end in one way: after as many, in the same state
abbrev pub EachForcingHasOneOutcome : Type 0
EachForcingHasOneOutcome =
    (net : Network) (s t u : List Level) (n m : ℕ) → AreForced net n s t → AreForced net m s u → (n ≡ m) × (t ≡ u)

-- a phase from one state, within one budget, ends in one way
abbrev pub EachPhaseHasOneOutcome : Type 0
EachPhaseHasOneOutcome =
    (net : Network) (s : List Level) (budget : ℕ) (done other : Bool) (n m rounds more : ℕ) (t u : List Level) → IsSound net → length s ≡ net.nodes →
    IsPhase net budget s done n t → HasRounds net budget s done rounds t → IsPhase net budget s other m u → HasRounds net budget s other more u →
    (done ≡ other) × (n ≡ m) × (rounds ≡ more) × (t ≡ u)

-- where a phase ends that does not settle, each storage node has its steady value or is X
abbrev pub EachUnsettledPhaseIsSteadyOrX : Type 0
EachUnsettledPhaseIsSteadyOrX = (net : Network) (s : List Level) (budget n : ℕ) (t : List Level) → IsPhase net budget s false n t → AreSteadyOrX net t

-- the seeds of a step are among those with this fact: the nodes that changed, and the ends of the switches whose gates did
pub record HoldsSeeds (net : Network) (s t : List Level) (IsSeed : ℕ → Type 0) : Type 0 where
  pub changed : (v : ℕ) → state_of s v ≢ state_of t v → IsSeed v
  pub left : (w : Switch) → Contains net.switches w → state_of s w.gate ≢ state_of t w.gate → IsSeed w.left
  pub right : (w : Switch) → Contains net.switches w → state_of s w.gate ≢ state_of t w.gate → IsSeed w.right

-- after a step from s to t, a storage node that is in no vicinity of a seed has its value in t after one step more
abbrev pub EachQuietNodeKeepsItsValue : Type 0
EachQuietNodeKeepsItsValue =
    (net : Network) (s t : List Level) (seeds : List ℕ) (v : ℕ) → IsSound net → IsStep net s t → HoldsSeeds net s t (Contains seeds) →
    IsStorage net v → ¬ (IsReached net t seeds v) → IsNextLevel net t v (state_of t v)
