-- What paths begin with at a node: its own strength, or what an input brings through a switch. What blocks paths doesn't count here.
use Rattle.std.specs.Prelude.{◌≡◌, ℕ, ◌<◌, ◌≤◌, ◌⊎◌, List, [], true, Contains, slice_index}
use Rattle.switch_net.specs.declared.switches.Level.{Level}
use Rattle.switch_net.specs.declared.switches.Level.TheVariants.{Zero, One}
use Rattle.switch_net.specs.declared.switches.Switch.{Switch}
use Rattle.switch_net.specs.declared.terminals.Side.{Side}
use Rattle.switch_net.specs.declared.terminals.Side.TheVariants.{Left, Right}
use Rattle.switch_net.specs.Network.{Network}
use Rattle.switch_net.specs.Path.{Joins, switch_strength, root_strength, is_input}
use Rattle.steady_state.specs.declared.beginning.Begun.{Begun}
use Rattle.steady_state.specs.declared.kinds.PathKind.{PathKind}
use Rattle.steady_state.specs.declared.kinds.PathKind.TheVariants.{Definite, FromOther}
use Rattle.steady_state.specs.steps.Kinds.{goes_through, BeginsAt}
use Rattle.steady_state.specs.steps.Spreading.{BringsAtMost, IsPulled}

-- paths of the kind may begin at the node, and this is its strength
pub record IsOwn (net : Network) (s : List Level) (kind : PathKind) (v k : ℕ) : Type 0 where
  pub begins : BeginsAt s kind v
  pub is_strength : root_strength net v ≡ k

-- paths of the kind may begin at an input and go on through a switch to the node, and this is the strength of the switch
pub record IsBrought (net : Network) (s : List Level) (kind : PathKind) (v k : ℕ) : Type 0 where
  pub through : Switch
  pub root : ℕ
  pub stands : Contains net.switches through
  pub joins : Joins through root v
  pub goes : goes_through s kind through ≡ true
  pub input : is_input net root ≡ true
  pub begins : BeginsAt s kind root
  pub is_strength : switch_strength through.kind ≡ k

-- the strength is 0, or one that paths of the kind begin with at the node; and it is no less than the node's own
pub record IsGathering (net : Network) (s : List Level) (kind : PathKind) (v k : ℕ) : Type 0 where
  pub source : 0 < k → IsOwn net s kind v k ⊎ IsBrought net s kind v k
  pub own : BeginsAt s kind v → root_strength net v ≤ k

-- and no less than what inputs bring
pub record IsGathered (net : Network) (s : List Level) (kind : PathKind) (v k : ℕ) : Type 0 where
  pub gathering : IsGathering net s kind v k
  pub left : IsPulled net s kind [] Left v k
  pub right : IsPulled net s kind [] Right v k

-- so for each kind that a step looks for
pub record HoldForEach (P : PathKind → ℕ → Type 0) (definite other_than_one other_than_zero : ℕ) : Type 0 where
  pub of_definite : P Definite definite
  pub of_other_than_one : P (FromOther One) other_than_one
  pub of_other_than_zero : P (FromOther Zero) other_than_zero

abbrev pub HoldOf : (PathKind → ℕ → Type 0) → Begun → Type 0
HoldOf P begun = HoldForEach P begun.definite begun.other_than_one begun.other_than_zero

abbrev pub AreGathering : Network → List Level → ℕ → Begun → Type 0
AreGathering net s v begun = HoldOf (λ kind k. IsGathering net s kind v k) begun

abbrev pub AreGathered : Network → List Level → ℕ → Begun → Type 0
AreGathered net s v begun = HoldOf (λ kind k. IsGathered net s kind v k) begun

abbrev pub BringAtMost : Network → List Level → Side → Switch → Begun → Type 0
BringAtMost net s side switch begun = HoldOf (λ kind k. BringsAtMost net s kind [] side k switch) begun

abbrev pub ArePulled : Network → List Level → Side → ℕ → Begun → Type 0
ArePulled net s side v begun = HoldOf (λ kind k. IsPulled net s kind [] side v k) begun

-- the entries of the node
abbrev pub AreGatheredAt : Network → List Level → ℕ → List ℕ → List ℕ → List ℕ → Type 0
AreGatheredAt net s v definite one zero =
    HoldForEach (λ kind k. IsGathered net s kind v k) (slice_index definite v) (slice_index one v) (slice_index zero v)

-- no strength is less than before
pub record AreMore (before after : Begun) : Type 0 where
  pub definite : before.definite ≤ after.definite
  pub other_than_one : before.other_than_one ≤ after.other_than_one
  pub other_than_zero : before.other_than_zero ≤ after.other_than_zero
