-- What the replies of a vector file are held to.
use Rattle.std.specs.Prelude.{◌≡◌, ◌<◌, ℕ, true, false, List, [], ◌∷◌, ◌++◌, All, Option}
use Rattle.switch_net.specs.Network.{IsSound, Network}
use Rattle.switch_net.specs.Path.{is_input, state_of}
use Rattle.switch_net.specs.Steady.{IsSteadyValue}
use Rattle.vector_files.specs.declared.files.VecLine.{VecLine}
use Rattle.vector_files.specs.declared.files.VecLine.TheVariants.{Set, Free, Size, Phase, Show}
use Rattle.vector_files.specs.declared.files.Vectors.{Vectors}
use Rattle.vector_files.specs.VectorFiles.{IsLineWithin}
use Rattle.vector_runs.specs.declared.replies.VecReply.{VecReply}
use Rattle.vector_runs.specs.declared.replies.VecReply.TheVariants.{Settled}
use Rattle.vector_runs.specs.declared.stuck_faults.StuckFault.{StuckFault}
use Rattle.vector_runs.specs.declared.watching.Seen.{Seen}
use Rattle.vector_runs.specs.Runs.{IsRun, LinesRun, RunsPhase, Standing}
use Rattle.vector_runs.specs.Watching.{AreSeen}

-- vectors that fit a network have one run on it: their replies are determined by the network, its names and the budget
abbrev pub EachRunHasOneOutcome : Type 0
EachRunHasOneOutcome =
    (net : Network) (names : List (List ℕ × ℕ)) (budget : ℕ) (vectors : Vectors) (replies others : List VecReply) → IsSound net
    → All (λ line. IsLineWithin names net.nodes line.1) vectors.lines
    → IsRun net names budget vectors replies → IsRun net names budget vectors others → replies ≡ others

-- and so is what they show, in which a node may be stuck
abbrev pub EachWatchHasOneOutcome : Type 0
EachWatchHasOneOutcome =
    (net : Network) (names : List (List ℕ × ℕ)) (budget : ℕ) (vectors : Vectors) (stuck : Option StuckFault) (shown others : List Seen) → IsSound net
    → All (λ line. IsLineWithin names net.nodes line.1) vectors.lines
    → AreSeen net names budget vectors stuck shown → AreSeen net names budget vectors stuck others → shown ≡ others

-- the line only asks for states
abbrev pub IsShow : VecLine → Type 0
IsShow (Set v x) = ⊥
IsShow (Free v) = ⊥
IsShow (Size v k) = ⊥
IsShow Phase = ⊥
IsShow (Show asked) = Unit {0}

-- The state of the node is the one that it has at rest: where it is no input, its steady value, with gates and roots in these states.
abbrev pub IsAtRest : Standing → ℕ → Type 0
IsAtRest at v = is_input at.net v ≡ false → IsSteadyValue at.net at.states v (state_of at.states v)

-- Lines are run, and then others.
pub record RunsBoth (budget : ℕ) (old : Standing) (lines others : List VecLine) (new : Standing) (told : List VecReply) : Type 0 where
  pub between : Standing
  pub first : List VecReply
  pub second : List VecReply
  pub runs_first : LinesRun budget old lines between first
  pub runs_second : LinesRun budget between others new second
  pub replied : told ≡ first ++ second

-- A run of two lists of lines is one of the first, and then one of the second.
abbrev pub RunsAreSplit : Type 0
RunsAreSplit =
    (budget : ℕ) (lines others : List VecLine) (old new : Standing) (told : List VecReply) → LinesRun budget old (lines ++ others) new told
    → RunsBoth budget old lines others new told

-- Lines leave a network its nodes and its switches.
abbrev pub RunsKeepSwitches : Type 0
RunsKeepSwitches =
    (budget : ℕ) (lines : List VecLine) (old new : Standing) (told : List VecReply) → LinesRun budget old lines new told
    → (new.net.nodes ≡ old.net.nodes) × (new.net.switches ≡ old.net.switches)

-- An input keeps its state over a phase.
abbrev pub PhasesKeepInputs : Type 0
PhasesKeepInputs =
    (budget : ℕ) (old new : Standing) (told : List VecReply) → RunsPhase budget old new told
    → (v : ℕ) → v < old.net.nodes → is_input old.net v ≡ true → state_of new.states v ≡ state_of old.states v

-- Behind a settled phase, as long as lines only show, each node is at rest.
abbrev pub SettledRunsRest : Type 0
SettledRunsRest =
    (budget number steps : ℕ) (old settled at : Standing) (since : List VecLine) (told : List VecReply)
    → RunsPhase budget old settled (Settled number steps ∷ []) → LinesRun budget settled since at told → All IsShow since
    → (v : ℕ) → v < at.net.nodes → IsAtRest at v
