-- Marked nodes.
use Rattle.std.specs.Prelude.{◌≡◌, ℕ, ◌<◌, ◌≤◌, List, Bool, true, Option, IfSome, slice_index, slice_index_or, length}
use Rattle.switch_net.specs.FiniteSets.Lists.{In}
use Rattle.switch_net.specs.declared.node_set.NodeSet.{NodeSet}
use Rattle.switch_net.specs.declared.switches.Level.{Level}
use Rattle.switch_net.specs.declared.switches.Switch.{Switch}
use Rattle.switch_net.specs.declared.terminals.Side.{Side}
use Rattle.switch_net.specs.declared.terminals.Side.TheVariants.{Left, Right}
use Rattle.switch_net.specs.declared.terminals.Terminal.{Terminal}
use Rattle.switch_net.specs.declared.terminals.Terminal.TheVariants.{End, Gate}
use Rattle.switch_net.specs.Network.{Network}
use Rattle.switch_net.specs.Path.{is_closed_or_unknown, state_of}
use Rattle.switch_net.specs.Sets.{IsInside}
use Rattle.switch_net.specs.Steady.{IsNextLevel}
use Rattle.switch_net.specs.Terminals.{near_end, far_end, node_at}
use Rattle.switch_net.specs.Vicinity.{IsStorage, IsInVicinity, IsReached}

-- a state for each node
abbrev pub States : Type 0
States = List Level

-- the marked nodes are storage nodes of the network
pub record AreMarked (net : Network) (marks : NodeSet) : Type 0 where
  pub fits : length marks.inside ≡ net.nodes
  pub storage : (v : ℕ) → IsInside marks.inside v → IsStorage net v

-- marks were only added, and listed behind the earlier ones
pub record AddsMarks (old new : NodeSet) : Type 0 where
  pub grown : (v : ℕ) → IsInside old.inside v → IsInside new.inside v
  pub same : (i : ℕ) → i < old.count → slice_index new.order i ≡ slice_index old.order i
  pub more : old.count ≤ new.count

-- the node is one of those that were marked last, behind so many others
abbrev pub IsLate : NodeSet → ℕ → ℕ → Type 0
IsLate marks before v = (i : ℕ) × (before ≤ i) × (i < marks.count) × (slice_index marks.order i ≡ v)

-- each marked node is in the vicinity of a seed
abbrev pub AreReached : Network → List Level → List ℕ → List Bool → Type 0
AreReached net s seeds inside = (v : ℕ) → IsInside inside v → IsReached net s seeds v

-- the switch, if it is closed or unknown, leads from its end on this side to a marked node, or to an input
abbrev pub LeadsInside : Network → List Level → Side → List Bool → Switch → Type 0
LeadsInside net s side inside switch = is_closed_or_unknown s switch ≡ true → IsStorage net (far_end side switch) → IsInside inside (far_end side switch)

-- all switches with this end at the node do
abbrev pub IsCovered : Network → List Level → Side → List Bool → ℕ → Type 0
IsCovered net s side inside v =
    (k : ℕ) (d : Switch) → k < length net.switches → near_end side (slice_index_or net.switches k d) ≡ v →
    LeadsInside net s side inside (slice_index_or net.switches k d)

-- closed or unknown switches lead from marked nodes to marked nodes and inputs alone
pub record AreClosed (net : Network) (s : List Level) (inside : List Bool) : Type 0 where
  pub left : (v : ℕ) → IsInside inside v → IsCovered net s Left inside v
  pub right : (v : ℕ) → IsInside inside v → IsCovered net s Right inside v

-- the ends of the switch are marked, or inputs
abbrev pub EndsInside : Network → List Bool → Switch → Type 0
EndsInside net inside switch = (IsStorage net switch.left → IsInside inside switch.left) × (IsStorage net switch.right → IsInside inside switch.right)

-- those of all switches are that have the node at the terminal
abbrev pub AreMarkedAt : Network → List Bool → Terminal → ℕ → Type 0
AreMarkedAt net inside terminal v = (k : ℕ) (d : Switch) → k < length net.switches → node_at terminal (slice_index_or net.switches k d) ≡ v →
    EndsInside net inside (slice_index_or net.switches k d)

-- those of all switches are whose gate is the node
abbrev pub IsGated : Network → List Bool → ℕ → Type 0
IsGated net inside v = AreMarkedAt net inside Gate v

-- those of all switches are that have the node somewhere
abbrev pub IsTouched : Network → List Bool → ℕ → Type 0
IsTouched net inside v = (terminal : Terminal) → AreMarkedAt net inside terminal v

-- those of all switches are that have the node at an end
abbrev pub AreEndsMarked : Network → List Bool → ℕ → Type 0
AreEndsMarked net inside v = AreMarkedAt net inside (End Left) v × AreMarkedAt net inside (End Right) v

-- The marked nodes are closed under vicinities, and among them are these nodes, if they store charge, the ends of the switches that they gate,
-- and the ends of the switches that have the held node at an end, if there is one.
pub record IsNear (net : Network) (s : List Level) (nodes : List ℕ) (held : Option ℕ) (inside : List Bool) : Type 0 where
  pub storage : (v : ℕ) → IsInside inside v → IsStorage net v
  pub listed : (i : ℕ) → i < length nodes → IsStorage net (slice_index nodes i) → IsInside inside (slice_index nodes i)
  pub gated : (i : ℕ) → i < length nodes → IsGated net inside (slice_index nodes i)
  pub beside : IfSome held (AreEndsMarked net inside)
  pub closed : (m v : ℕ) → IsInside inside m → IsInVicinity net s m v → IsInside inside v

-- a storage node in no vicinity of a marked node keeps its state in a step
abbrev pub IsQuiet : Network → List Level → List Bool → Type 0
IsQuiet net s inside =
    (v : ℕ) → IsStorage net v → ((m : ℕ) → IsInside inside m → IsInVicinity net s m v → ⊥) → IsNextLevel net s v (state_of s v)

-- A step changes nothing but in vicinities of the ends of switches that have one of these nodes somewhere.
abbrev pub IsRestedBut : Network → List Level → List ℕ → Type 0
IsRestedBut net s nodes = (inside : List Bool) → ((v : ℕ) → In v nodes → IsTouched net inside v) → IsQuiet net s inside
