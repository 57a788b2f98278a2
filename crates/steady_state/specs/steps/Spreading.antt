-- How strengths spread over a part.
use Rattle.std.specs.Prelude.{◌≡◌, ℕ, ◌+◌, ◌<◌, ◌≤◌, List, Bool, true, false, ◌⊎◌, min, slice_index, slice_index_or, slice_set, length, sum_by}
use Rattle.switch_net.specs.declared.switches.Level.{Level}
use Rattle.switch_net.specs.declared.switches.Switch.{Switch}
use Rattle.switch_net.specs.Network.{Network}
use Rattle.switch_net.specs.Path.{switch_strength, root_strength, is_input}
use Rattle.switch_net.specs.declared.terminals.Side.{Side}
use Rattle.switch_net.specs.declared.terminals.Side.TheVariants.{Left, Right}
use Rattle.steady_state.specs.declared.kinds.PathKind.{PathKind}
use Rattle.switch_net.specs.Terminals.{near_end, far_end}
use Rattle.steady_state.specs.steps.Kinds.{goes_through, BeginsAt, HasPath}
use Rattle.switch_net.specs.Sets.{IsInside}
use Rattle.switch_net.specs.FiniteSets.Lists.{In}

-- what a switch of strength g brings from a node to another: the entry is raised to it, or it brings no more
abbrev pub IsLift : List ℕ → List ℕ → List ℕ → ℕ → ℕ → ℕ → Bool → Type 0
IsLift floor old new from to g true =
    (new ≡ slice_set old to (min (slice_index old from) g)) × (slice_index old to < min (slice_index old from) g) ×
    (slice_index floor to ≤ min (slice_index old from) g)
IsLift floor old new from to g false = (new ≡ old) × (slice_index floor to ≤ min (slice_index old from) g → min (slice_index old from) g ≤ slice_index old to)

-- the switch brings no more from its end on this side to the other
abbrev pub IsRelaxed : List Level → PathKind → (ℕ → Type 0) → List ℕ → List ℕ → Side → Switch → Type 0
IsRelaxed s kind Inner floor best side switch =
    goes_through s kind switch ≡ true → Inner (far_end side switch) →
    slice_index floor (far_end side switch) ≤ min (slice_index best (near_end side switch)) (switch_strength switch.kind) →
    min (slice_index best (near_end side switch)) (switch_strength switch.kind) ≤ slice_index best (far_end side switch)

-- Strengths under way. Every switch of the part brings no more, but those at nodes that wait or are just being looked at.
pub record IsWorking (net : Network) (s : List Level) (kind : PathKind) (Inner : ℕ → Type 0) (floor best : List ℕ) (waiting : List Bool) (busy : List ℕ) :
    Type 0 where
  pub attained : (a : ℕ) → Inner a → 0 < slice_index best a → HasPath net s kind a (slice_index best a)
  pub waits : (v : ℕ) → IsInside waiting v → Inner v
  pub settled : (side : Side) (k : ℕ) (d : Switch) → k < length net.switches → Inner (near_end side (slice_index_or net.switches k d)) →
      In (near_end side (slice_index_or net.switches k d)) busy
      ⊎ (IsInside waiting (near_end side (slice_index_or net.switches k d)) ⊎ IsRelaxed s kind Inner floor best side (slice_index_or net.switches k d))

-- the sum of the entries
abbrev pub total : List ℕ → ℕ
total xs = sum_by (λ x. x) xs

-- entries that only rose, by at least one for each node that waits anew
pub record IsRaised (old new : List ℕ) (before after : ℕ) : Type 0 where
  pub above : (a : ℕ) → slice_index old a ≤ slice_index new a
  pub risen : total old ≤ total new
  pub paid : after + total old ≤ before + total new

-- the input at the far end of the switch, if there is one, brings no more than this
abbrev pub BringsAtMost : Network → List Level → PathKind → List ℕ → Side → ℕ → Switch → Type 0
BringsAtMost net s kind floor side best switch =
    goes_through s kind switch ≡ true → is_input net (far_end side switch) ≡ true → BeginsAt s kind (far_end side switch) →
    slice_index floor (near_end side switch) ≤ switch_strength switch.kind → switch_strength switch.kind ≤ best

-- the inputs at the far ends of the switches at a node bring no more than this
abbrev pub IsPulled : Network → List Level → PathKind → List ℕ → Side → ℕ → ℕ → Type 0
IsPulled net s kind floor side v best =
    (k : ℕ) (d : Switch) → k < length net.switches → near_end side (slice_index_or net.switches k d) ≡ v →
    BringsAtMost net s kind floor side best (slice_index_or net.switches k d)

-- what a node has by itself and from inputs
pub record IsFirstStrength (net : Network) (s : List Level) (kind : PathKind) (floor : List ℕ) (v best : ℕ) : Type 0 where
  pub attained : 0 < best → HasPath net s kind v best
  pub own : BeginsAt s kind v → slice_index floor v ≤ root_strength net v → root_strength net v ≤ best
  pub left : IsPulled net s kind floor Left v best
  pub right : IsPulled net s kind floor Right v best
