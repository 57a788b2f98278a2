-- What the lines of a vector file do to a network, and what they reply.
use Rattle.std.specs.Prelude.{◌≡◌, ◌↔◌, ◌⊎◌, ◌<◌, ℕ, suc, Bool, true, false, List, [], ◌∷◌, ◌++◌, All, map, slice_set}
use Rattle.switch_net.specs.declared.switches.Level.{Level}
use Rattle.switch_net.specs.Network.{Network}
use Rattle.switch_net.specs.Path.{is_input, state_of}
use Rattle.switch_net.specs.Phase.{IsPhase}
use Rattle.switch_net.specs.SimRecords.{AreStarts, IsGround, IsPower}
use Rattle.vector_files.specs.declared.files.VecLine.{VecLine}
use Rattle.vector_files.specs.declared.files.VecLine.TheVariants.{Set, Free, Size, Phase, Show}
use Rattle.vector_files.specs.declared.files.Vectors.{Vectors}
use Rattle.vector_runs.specs.declared.replies.VecReply.{VecReply}
use Rattle.vector_runs.specs.declared.replies.VecReply.TheVariants.{Settled, Unsettled, Shown}

-- Where a run stands between two lines: the network as lines have changed it, the states of its nodes, and how many phases were run.
pub record Standing : Type 0 where
  pub net : Network
  pub states : List Level
  pub phases : ℕ

-- the network in which the node is an input, or stores charge
abbrev pub with_input : Network → ℕ → Bool → Network
with_input net v input = record net { inputs = slice_set net.inputs v input }

-- the network in which the node has the size
abbrev pub with_size : Network → ℕ → ℕ → Network
with_size net v size = record net { sizes = slice_set net.sizes v size }

-- what is told of the phase of this number, which settled after so many steps, or did not settle
abbrev pub phase_reply : ℕ → Bool → ℕ → VecReply
phase_reply number true steps = Settled number steps
phase_reply number false steps = Unsettled number

-- what is told of the nodes that are asked for
abbrev pub shown_in : List Level → List (List ℕ × ℕ) → List VecReply
shown_in states asked = map (λ named. Shown named.0 (state_of states named.1)) asked

-- A phase is run from where the run stands, within the budget.
pub record RunsPhase (budget : ℕ) (old new : Standing) (replies : List VecReply) : Type 0 where
  pub done : Bool
  pub steps : ℕ
  pub is_phase : IsPhase old.net budget old.states done steps new.states
  pub same_net : new.net ≡ old.net
  pub counted : new.phases ≡ suc old.phases
  pub replied : replies ≡ phase_reply new.phases done steps ∷ []

-- what a line does, and what it replies
abbrev pub LineRuns : ℕ → Standing → VecLine → Standing → List VecReply → Type 0
LineRuns budget old (Set v x) new replies =
    (new ≡ record old { net = with_input old.net v true; states = slice_set old.states v x }) × (replies ≡ [])
LineRuns budget old (Free v) new replies = (new ≡ record old { net = with_input old.net v false }) × (replies ≡ [])
LineRuns budget old (Size v k) new replies = (new ≡ record old { net = with_size old.net v k }) × (replies ≡ [])
LineRuns budget old Phase new replies = RunsPhase budget old new replies
LineRuns budget old (Show asked) new replies = (new ≡ old) × (replies ≡ shown_in old.states asked)

-- One line is run, and then the others.
pub record RunsFirst (budget : ℕ) (old : Standing) (line : VecLine) (Rest : Standing → List VecReply → Type 0) (replies : List VecReply)
    : Type 0 where
  pub between : Standing
  pub first : List VecReply
  pub others : List VecReply
  pub runs : LineRuns budget old line between first
  pub rest : Rest between others
  pub replied : replies ≡ first ++ others

-- what lines do in their order, and what they reply
abbrev pub LinesRun : ℕ → Standing → List VecLine → Standing → List VecReply → Type 0
LinesRun budget old [] new replies = (new ≡ old) × (replies ≡ [])
LinesRun budget old (line ∷ lines) new replies =
    RunsFirst budget old line (λ between others. LinesRun budget between lines new others) replies

-- the lines without their numbers
abbrev pub lines_of : Vectors → List VecLine
lines_of vectors = map (λ line. line.1) vectors.lines

-- where a run begins from these states
abbrev pub begun_in : Network → List Level → Standing
begun_in net states = record { net = net; states = states; phases = 0 }

-- The network is as it is made: each node has size 1, and power and ground alone are inputs.
pub record IsFresh (net : Network) (names : List (List ℕ × ℕ)) : Type 0 where
  pub sizes : All (λ size. size ≡ 1) net.sizes
  pub inputs : (v : ℕ) → v < net.nodes → (is_input net v ≡ true) ↔ (IsPower names v ⊎ IsGround names v)

-- Vectors are run on a network with these names, from the states in which it begins: what they reply.
pub record IsRun (net : Network) (names : List (List ℕ × ℕ)) (budget : ℕ) (vectors : Vectors) (replies : List VecReply) : Type 0 where
  pub start : List Level
  pub starts : AreStarts net names start
  pub last : Standing
  pub runs : LinesRun budget (begun_in net start) (lines_of vectors) last replies

-- Vectors are run on a network with these names: what they reply, and the states in which they leave its nodes.
pub record EndsRun (net : Network) (names : List (List ℕ × ℕ)) (budget : ℕ) (vectors : Vectors) (replies : List VecReply)
    (states : List Level) : Type 0 where
  pub run : IsRun net names budget vectors replies
  pub states_are : states ≡ run.last.states
