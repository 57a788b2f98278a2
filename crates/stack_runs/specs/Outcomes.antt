-- What comes of the vectors of a stack.
use Rattle.std.specs.Prelude.{◌≡◌, ℕ, Bool, true, false, List, [], ◌∷◌}
use Rattle.std.specs.List.{count_by}
use Rattle.switch_net.specs.declared.switches.Level.{Level}
use Rattle.switch_net.specs.declared.switches.Level.TheVariants.{Zero, One, X}
use Rattle.switch_net.specs.Network.{Network}
use Rattle.vector_runs.specs.Runs.{EndsRun, phase_reply}
use Rattle.stack_runs.specs.declared.outcomes.Outcome.{Outcome}
use Rattle.stack_runs.specs.StackVectors.{stack_vectors}

abbrev pub is_zero : Level → Bool
is_zero Zero = true
is_zero One = false
is_zero X = false

abbrev pub is_one : Level → Bool
is_one Zero = false
is_one One = true
is_one X = false

-- The vectors of the number n were run on a network with these names. All that they reply is what is told of their one phase. A phase that
-- did not settle took as many steps as the budget. Zeros and ones are counted in the states in which it leaves the nodes.
pub record IsOutcome (net : Network) (names : List (List ℕ × ℕ)) (budget n : ℕ) (outcome : Outcome) : Type 0 where
  pub states : List Level
  pub run : EndsRun net names budget (stack_vectors names n) (phase_reply 1 outcome.settled outcome.steps ∷ []) states
  pub unsettled : outcome.settled ≡ false → outcome.steps ≡ budget
  pub zeros : outcome.zeros ≡ count_by is_zero states
  pub ones : outcome.ones ≡ count_by is_one states
