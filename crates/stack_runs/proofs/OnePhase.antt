-- Lines that only set nodes, and then one phase, reply what is told of that phase.
use Rattle.std.proofs.Common.{◌≡◌, ℕ, zero, suc, Bool, true, false, List, [], ◌∷◌, ◌++◌, sym, ap, subst, ◌∙◌, map, append_assoc}
use Rattle.std.specs.Prelude.{Option, Some, None}
use Rattle.std.specs.List.{count_by}
use Rattle.std.specs.Option.{option_map_or}
use Rattle.switch_net.specs.declared.switches.Level.{Level}
use Rattle.switch_net.specs.declared.switches.Level.TheVariants.{Zero, One}
use Rattle.switch_net.specs.Network.{Network}
use Rattle.vector_files.specs.declared.files.VecLine.{VecLine}
use Rattle.vector_files.specs.declared.files.VecLine.TheVariants.{Set, Free, Size, Phase, Show}
use Rattle.vector_files.specs.LineForms.{node_named}
use Rattle.vector_runs.specs.declared.replies.VecReply.{VecReply}
use Rattle.vector_runs.specs.Runs.{EndsRun, LineRuns, LinesRun, Standing, begun_in, phase_reply}
use Rattle.stack_runs.specs.declared.outcomes.Outcome.{Outcome}
use Rattle.stack_runs.specs.Outcomes.{IsOutcome, is_one, is_zero}
use Rattle.stack_runs.specs.StackVectors.{column_lines, column_name, lines_below, row_lines, row_name, set_named, stack_vectors}

-- the line sets a node
abbrev IsSet : VecLine → Type 0
IsSet (Set v x) = Unit {0}
IsSet (Free v) = ⊥
IsSet (Size v k) = ⊥
IsSet Phase = ⊥
IsSet (Show asked) = ⊥

abbrev OnlySets : List (ℕ × VecLine) → Type 0
OnlySets [] = Unit {0}
OnlySets (line ∷ lines) = IsSet line.1 × OnlySets lines

sets-append : (lines others : List (ℕ × VecLine)) → OnlySets lines → OnlySets others → OnlySets (lines ++ others)
sets-append [] others here there = there
sets-append (line ∷ lines) others here there = (here.0, sets-append lines others here.1 there)

set_only : (level : Level) (found : Option ℕ) → OnlySets (option_map_or (λ v. (0, Set v level) ∷ []) found [])
set_only level None = tt
set_only level (Some v) = (tt, tt)

below_only : (lines : ℕ → List (ℕ × VecLine)) → ((j : ℕ) → OnlySets (lines j)) → (n : ℕ) → OnlySets (lines_below lines n)
below_only lines only zero = tt
below_only lines only (suc n) = sets-append (lines_below lines n) (lines n) (below_only lines only n) (only n)

-- the lines of a stack but the last only set
stack_only : (names : List (List ℕ × ℕ)) (n : ℕ) → OnlySets (row_lines names n ++ column_lines names n)
stack_only names n =
    sets-append (row_lines names n) (column_lines names n)
    (below_only (λ j. set_named names One (row_name j)) (λ j. set_only One (node_named names (row_name j))) n)
    (below_only (λ i. set_named names Zero (column_name i)) (λ i. set_only Zero (node_named names (column_name i))) n)

-- what a line does that sets a node
pub record OnlyChanges (old new : Standing) (replies : List VecReply) : Type 0 where
  pub phases : new.phases ≡ old.phases
  pub silent : replies ≡ []

set_runs : (budget : ℕ) (line : VecLine) → IsSet line → (old new : Standing) (replies : List VecReply) → LineRuns budget old line new replies
    → OnlyChanges old new replies
set_runs budget (Set v x) is old new replies runs = record { phases = ap (λ (at : Standing). at.phases) runs.0; silent = runs.1 }
set_runs budget (Free v) is old new replies runs = absurd is
set_runs budget (Size v k) is old new replies runs = absurd is
set_runs budget Phase is old new replies runs = absurd is
set_runs budget (Show asked) is old new replies runs = absurd is

-- the replies are what is told of a phase of this number
pub record TellsPhase (number : ℕ) (replies : List VecReply) : Type 0 where
  pub done : Bool
  pub steps : ℕ
  pub are : replies ≡ phase_reply number done steps ∷ []

one_phase : (budget : ℕ) (lines : List (ℕ × VecLine)) → OnlySets lines → (old new : Standing) (replies : List VecReply)
    → LinesRun budget old (map (λ line. line.1) (lines ++ (0, Phase) ∷ [])) new replies → TellsPhase (suc old.phases) replies
one_phase budget [] only old new replies runs =
    let phase = runs.runs in
    record {
      done = phase.done;
      steps = phase.steps;
      are = runs.replied ∙ ap (λ (more : List VecReply). runs.first ++ more) runs.rest.1
          ∙ ap (λ (first : List VecReply). first ++ []) phase.replied
          ∙ ap (λ (number : ℕ). phase_reply number phase.done phase.steps ∷ []) phase.counted;
    }
one_phase budget (line ∷ lines) only old new replies runs =
    let sets = set_runs budget line.1 only.0 old runs.between runs.first runs.runs in
    let later = one_phase budget lines only.1 runs.between new runs.others runs.rest in
    record {
      done = later.done;
      steps = later.steps;
      are = runs.replied ∙ ap (λ (first : List VecReply). first ++ runs.others) sets.silent
          ∙ later.are ∙ ap (λ (phases : ℕ). phase_reply (suc phases) later.done later.steps ∷ []) sets.phases;
    }

-- the vectors of a stack reply what is told of one phase
pub stack_told : (net : Network) (names : List (List ℕ × ℕ)) (budget n : ℕ) (replies : List VecReply) (states : List Level)
    → EndsRun net names budget (stack_vectors names n) replies states → TellsPhase 1 replies
stack_told net names budget n replies states ends =
    one_phase budget (row_lines names n ++ column_lines names n) (stack_only names n) (begun_in net ends.run.start) ends.run.last replies ends.run.runs

-- an outcome that tells the same of the phase, and counts the states, is that of the vectors
pub outcome_is : (net : Network) (names : List (List ℕ × ℕ)) (budget n : ℕ) (replies : List VecReply) (states : List Level) (outcome : Outcome)
    → EndsRun net names budget (stack_vectors names n) replies states
    → ((done : Bool) (steps : ℕ) → replies ≡ phase_reply 1 done steps ∷ [] → replies ≡ phase_reply 1 outcome.settled outcome.steps ∷ [])
    → (outcome.settled ≡ false → outcome.steps ≡ budget) → outcome.zeros ≡ count_by is_zero states → outcome.ones ≡ count_by is_one states
    → IsOutcome net names budget n outcome
outcome_is net names budget n replies states outcome ends reply unsettled zeros ones =
    let told = stack_told net names budget n replies states ends in
    record {
      states = states;
      run = subst (λ (replies : List VecReply). EndsRun net names budget (stack_vectors names n) replies states) (reply told.done told.steps told.are) ends;
      unsettled = unsettled;
      zeros = zeros;
      ones = ones;
    }
