-- Runs under way.
use Rattle.std.specs.Prelude.{◌≡◌, ◌<◌, ℕ, Bool, true, List, [], ◌∷◌, ◌++◌, All, length, Option, IfSome, IsSomeAnd, Vec}
use Rattle.std.specs.Global.{Global}
use Rattle.switch_net.specs.declared.network.Net.{Net}
use Rattle.switch_net.specs.Net.{network_of}
use Rattle.switch_net.specs.declared.switches.Level.{Level}
use Rattle.switch_net.specs.Network.{IsSize, Network}
use Rattle.switch_net.specs.SimRecords.{AreStarts}
use Rattle.steady_state.specs.Marked.{IsRestedBut}
use Rattle.vector_files.specs.declared.files.VecLine.{VecLine}
use Rattle.vector_files.specs.declared.files.VecLine.TheVariants.{Set, Free, Size, Phase, Show}
use Rattle.vector_runs.specs.declared.progress.Progress.{Progress}
use Rattle.vector_runs.specs.declared.replies.VecReply.{VecReply}
use Rattle.vector_runs.specs.declared.stuck_faults.StuckFault.{StuckFault}
use Rattle.vector_runs.specs.declared.watching.WatchedRun.{WatchedRun}
use Rattle.vector_runs.specs.Runs.{LineRuns, LinesRun, Standing}
use Rattle.vector_runs.specs.Watching.{Watched, begun_with}

-- where a run on this network stands
abbrev pub standing : Net → Progress → Standing
standing net progress = record { net = network_of net; states = progress.states.items; phases = progress.phases }

-- The network rests but for the inputs that were set since it did, where these are told.
abbrev pub IsRested : Net → Progress → Type 0
IsRested net progress = IfSome progress.touched
    (λ nodes. All (λ v. v < net.nodes) nodes.items × IsRestedBut (network_of net) progress.states.items nodes.items)

-- one input was set more
abbrev pub AreTouchedAfter : Option (Vec ℕ Global) → Bool → ℕ → Vec ℕ Global → Type 0
AreTouchedAfter touched was_input node nodes = (was_input ≡ true) × IsSomeAnd touched (λ before. nodes.items ≡ before.items ++ node ∷ [])

-- the nodes of the line are among so many, and its size is one
abbrev pub FitsNodes : ℕ → VecLine → Type 0
FitsNodes nodes (Set v x) = v < nodes
FitsNodes nodes (Free v) = v < nodes
FitsNodes nodes (Size v k) = (v < nodes) × IsSize k
FitsNodes nodes Phase = Unit {0}
FitsNodes nodes (Show asked) = All (λ named. named.1 < nodes) asked

-- the replies afterwards are those before and maybe more
abbrev pub AddsReplies : List VecReply → List VecReply → Type 0
AddsReplies before after = (more : List VecReply) × (after ≡ before ++ more)

-- A line was run, and what it replies was added.
pub record RanLine (budget : ℕ) (old : Standing) (line : VecLine) (new : Standing) (before after : List VecReply) : Type 0 where
  pub told : List VecReply
  pub runs : LineRuns budget old line new told
  pub added : after ≡ before ++ told

-- Lines were run in their order, and what they reply was added.
pub record RanLines (budget : ℕ) (old : Standing) (lines : List VecLine) (new : Standing) (before after : List VecReply) : Type 0 where
  pub told : List VecReply
  pub runs : LinesRun budget old lines new told
  pub added : after ≡ before ++ told

-- where a watched run on this network stands
abbrev pub watched : Net → WatchedRun → Watched
watched net run = record { at = standing net run.progress; settled = run.settled }

-- the states of the nodes in a watched run
abbrev pub states_of : WatchedRun → List Level
states_of run = run.progress.states.items

-- A watched run goes on on this network.
pub record IsUnderWay (net : Net) (run : WatchedRun) : Type 0 where
  pub states : length (states_of run) ≡ net.nodes
  pub rested : IsRested net run.progress

-- A run stands where it begins on a network with these names, in which a node may be stuck.
pub record HasBegun (net : Network) (names : List (List ℕ × ℕ)) (stuck : Option StuckFault) (at : Watched) : Type 0 where
  pub start : List Level
  pub starts : AreStarts net names start
  pub stands : at ≡ begun_with stuck net start
