-- What is recorded of a run without a fault, and runs with one beside it.
use Rattle.std.specs.Prelude.{◌≡◌, ◌≢◌, ◌≤◌, ◌<◌, ℕ, Bool, true, false, List, [], ◌∷◌, All, None, length, slice_index, slice_set, take}
use Rattle.switch_net.specs.declared.node_set.NodeSet.{NodeSet}
use Rattle.switch_net.specs.declared.switches.Level.{Level}
use Rattle.switch_net.specs.Network.{IsSound, Network}
use Rattle.switch_net.specs.Path.{is_input, state_of}
use Rattle.switch_net.specs.Phase.{IsPhase, Steps}
use Rattle.switch_net.specs.Sets.{IsInside}
use Rattle.switch_net.specs.Steady.{IsStep}
use Rattle.steady_state.specs.Marked.{IsNear, IsQuiet}
use Rattle.vector_files.specs.declared.files.VecLine.{VecLine}
use Rattle.vector_files.specs.declared.files.VecLine.TheVariants.{Set, Free, Size, Phase, Show}
use Rattle.vector_runs.specs.Runs.{with_input, with_size}
use Rattle.fault_replay.specs.declared.records.PhaseRecord.{PhaseRecord}
use Rattle.fault_replay.specs.declared.records.PhaseRecord.TheVariants.{Steps as RecordedSteps, Jump}
use Rattle.fault_replay.specs.declared.replaying.Replay.{Replay}
use Rattle.fault_replay.specs.Changes.{changed}

-- ---- what is recorded

-- these changes are steps of the network, one after the other, and lead from the one state to the other
abbrev pub StepsBy : Network → List Level → List (List (ℕ × Level)) → List Level → Type 0
StepsBy net s [] t = t ≡ s
StepsBy net s (changes ∷ steps) t = IsStep net s (changed changes s) × StepsBy net (changed changes s) steps t

-- A phase led from the one state to the other: in steps within the budget, behind which the network rests; or somehow, but the inputs kept
-- their states.
abbrev pub IsRecorded : Network → ℕ → List Level → PhaseRecord → List Level → Type 0
IsRecorded net budget s (RecordedSteps steps) t = StepsBy net s steps t × IsStep net t t × (length steps ≤ budget)
IsRecorded net budget s (Jump states) t =
    (t ≡ states) × (length t ≡ length s) × ((v : ℕ) → is_input net v ≡ true → state_of t v ≡ state_of s v)

-- the nodes of the changes are among so many, the budget is not passed, and there are so many states
abbrev pub FitsRecord : ℕ → ℕ → PhaseRecord → Type 0
FitsRecord nodes budget (RecordedSteps steps) = All (λ changes. All (λ change. change.0 < nodes) changes) steps × (length steps ≤ budget)
FitsRecord nodes budget (Jump states) = length states ≡ nodes

-- what a line that is no phase makes of states
abbrev pub states_after : VecLine → List Level → List Level
states_after (Set v x) s = slice_set s v x
states_after line s = s

-- what a line does to a network and its states, and what is recorded then
abbrev pub Follows : ℕ → Network → List Level → VecLine → List PhaseRecord → (Network → List Level → List PhaseRecord → Type 0) → Type 0
Follows budget net s (Set v x) phases Rest = Rest (with_input net v true) (slice_set s v x) phases
Follows budget net s (Free v) phases Rest = Rest (with_input net v false) s phases
Follows budget net s (Size v k) phases Rest = Rest (with_size net v k) s phases
Follows budget net s Phase [] Rest = Unit {0}
Follows budget net s Phase (phase ∷ phases) Rest = (t : List Level) × IsRecorded net budget s phase t × Rest net t phases
Follows budget net s (Show asked) phases Rest = Rest net s phases

-- Lines that a network runs from these states on, as far as they are recorded.
abbrev pub Records : ℕ → Network → List Level → List (ℕ × VecLine) → List PhaseRecord → Type 0
Records budget net s [] phases = Unit {0}
Records budget net s (line ∷ lines) phases = Follows budget net s line.1 phases (λ new t later. Records budget new t lines later)

-- ---- runs beside each other

-- The networks have the same nodes and switches, and but for one node the same inputs and sizes.
pub record AreAlikeBut (held : ℕ) (good net : Network) : Type 0 where
  pub nodes : net.nodes ≡ good.nodes
  pub switches : net.switches ≡ good.switches
  pub inputs : (v : ℕ) → v ≢ held → is_input good v ≡ is_input net v
  pub sizes : (v : ℕ) → v ≢ held → slice_index good.sizes v ≡ slice_index net.sizes v

-- A run without a fault stands in the states s, and one in which a node is held in the states t. Inputs have the same state in both, but for
-- the held one, and all nodes that differ are told.
pub record IsAlong (good net : Network) (held : ℕ) (s t : List Level) (told : List Bool) : Type 0 where
  pub sound : IsSound good
  pub alike : AreAlikeBut held good net
  pub good_states : length s ≡ net.nodes
  pub states : length t ≡ net.nodes
  pub is_held : is_input net held ≡ true
  pub inputs : (v : ℕ) → v ≢ held → is_input net v ≡ true → state_of s v ≡ state_of t v
  pub covers : (v : ℕ) → state_of s v ≢ state_of t v → IsInside told v

-- the nodes of a set, in their order
abbrev pub listed : NodeSet → List ℕ
listed nodes = take nodes.count nodes.order

-- a step changes nothing that is not near these nodes
abbrev pub IsQuietBut : Network → List Level → List ℕ → Type 0
IsQuietBut net s nodes = (inside : List Bool) → IsNear net s nodes None inside → IsQuiet net s inside

-- there is room for so many nodes, and the held one is one of them
pub record IsReplayFor (nodes : ℕ) (replay : Replay) : Type 0 where
  pub good : length replay.good.items ≡ nodes
  pub next : length replay.next.items ≡ nodes
  pub differing : length replay.differing.inside ≡ nodes
  pub held : replay.held < nodes

-- how a phase ends, after whatever number of steps
abbrev pub EndsPhase : Network → ℕ → List Level → Bool → List Level → Type 0
EndsPhase net budget s done t = (n : ℕ) × IsPhase net budget s done n t

-- at most so many steps lead to a state in which the network rests, or so many lead to this one
abbrev pub SettlesDown : Network → ℕ → List Level → Bool → List Level → Type 0
SettlesDown net most s true t = (n : ℕ) × (n ≤ most) × Steps net n s t × IsStep net t t
SettlesDown net most s false t = Steps net most s t
