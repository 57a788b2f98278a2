-- How the steps of a phase end, and where the rounds stand that follow.
use Rattle.std.specs.Prelude.{◌≡◌, ◌≢◌, ℕ, suc, ◌<◌, ◌≤◌, List, Bool, false, Option, Some, None, slice_index, slice_index_or}
use Rattle.switch_net.specs.declared.switches.Level.{Level}
use Rattle.switch_net.specs.declared.switches.Level.TheVariants.{X}
use Rattle.switch_net.specs.Network.{Network}
use Rattle.switch_net.specs.Path.{state_of}
use Rattle.switch_net.specs.Phase.{NoneRests, SettlesAfter, Steps, is_forced}
use Rattle.switch_net.specs.Sets.{IsAmong}
use Rattle.switch_net.specs.Steady.{IsNextLevel, IsStep}
use Rattle.switch_net.specs.Vicinity.{IsStorage}
use Rattle.steady_state.specs.Levels.{AreSteady, KeepsOthers}

-- after as many steps as the budget the network doesn't rest: the next step, which is worked out but not made, changes some marked nodes and no other
pub record IsMovingAfter (net : Network) (budget : ℕ) (s t next : List Level) (inside : List Bool) : Type 0 where
  pub reached : Steps net budget s t
  pub none_rests : NoneRests net (suc budget) s
  pub step : IsStep net t next
  pub kept : KeepsOthers inside t next

-- the steps of the phase from s end in the state t: it has settled after so many, or is moving
abbrev pub DoStepsEnd : Network → ℕ → List Level → Option ℕ → List Level → List Level → List Bool → Type 0
DoStepsEnd net budget s (Some n) t next inside = SettlesAfter net n s t × (n ≤ budget)
DoStepsEnd net budget s None t next inside = IsMovingAfter net budget s t next inside

-- the first nodes of the list are X in the new states, and others are as they were
pub record AreMadeX (nodes : List ℕ) (count : ℕ) (old new : List Level) : Type 0 where
  pub made : (i : ℕ) → i < count → state_of new (slice_index nodes i) ≡ X
  pub moved : (v : ℕ) → state_of old v ≢ state_of new v → IsAmong nodes count v

-- Where the next round is due: `next` has what a step makes of the marked nodes, and the states of the others. Of these no step changes any but those that
-- are forced.
pub record IsRoundDue (net : Network) (forced : List Bool) (s next : List Level) (inside : List Bool) : Type 0 where
  pub steady : AreSteady net s inside next
  pub kept : KeepsOthers inside s next
  pub rest : (v : ℕ) → IsStorage net v → is_forced forced v ≡ false → slice_index_or inside v false ≡ false → IsNextLevel net s v (state_of s v)
