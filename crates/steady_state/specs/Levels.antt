-- The levels that a step gives.
use Rattle.std.specs.Prelude.{◌≡◌, ℕ, ◌<◌, List, Bool, false, length, slice_index, slice_index_or}
use Rattle.switch_net.specs.declared.switches.Level.{Level}
use Rattle.switch_net.specs.declared.switches.Level.TheVariants.{Zero, One, X}
use Rattle.switch_net.specs.declared.arrays.Strengths.{Strengths}
use Rattle.switch_net.specs.Arrays.{AreStrengthsFor}
use Rattle.switch_net.specs.Network.{Network}
use Rattle.switch_net.specs.Path.{state_of}
use Rattle.switch_net.specs.Steady.{IsSteadyValue}
use Rattle.switch_net.specs.Sets.{IsAmong, IsInside}

-- the level where p is the greatest strength of unblocked paths from roots other than one, and q from roots other than zero
abbrev pub IsLevelOf : ℕ → ℕ → Level → Type 0
IsLevelOf p q One = p ≡ 0
IsLevelOf p q Zero = q ≡ 0
IsLevelOf p q X = (0 < p) × (0 < q)

-- the first n nodes of the list have their levels, and nodes that are not listed are as they were
pub record IsWritten (ps qs order : List ℕ) (n : ℕ) (old new : List Level) : Type 0 where
  pub written : (i : ℕ) → i < n → IsLevelOf (slice_index ps (slice_index order i)) (slice_index qs (slice_index order i)) (state_of new (slice_index order i))
  pub kept : (v : ℕ) → ¬ (IsAmong order (length order) v) → state_of new v ≡ state_of old v

-- strengths for so many nodes, and no node that waits
pub record AreReadyFor (nodes : ℕ) (strengths : Strengths) : Type 0 where
  pub fits : AreStrengthsFor nodes strengths
  pub idle : strengths.waiting.count ≡ 0

-- the marked nodes have their steady values, by these states
abbrev pub AreSteady : Network → List Level → List Bool → List Level → Type 0
AreSteady net s inside next = (v : ℕ) → IsInside inside v → IsSteadyValue net s v (state_of next v)

-- nodes that are not marked are as they were
abbrev pub KeepsOthers : List Bool → List Level → List Level → Type 0
KeepsOthers inside old new = (v : ℕ) → slice_index_or inside v false ≡ false → state_of new v ≡ state_of old v
