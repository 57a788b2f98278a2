-- The network that a sim file stands for.
use Rattle.std.specs.Prelude.{◌≡◌, ◌≤◌, ◌<◌, ℕ, true, List, ◌++◌, length, map, All, AllPairs, Some, slice_get}
use Rattle.finite_sets.specs.Least.{IsLeast}
use Rattle.finite_sets.specs.Lists.{In}
use Rattle.sim_text.specs.declared.faults.SimFault.{SimFault}
use Rattle.sim_text.specs.declared.faults.SimFault.TheVariants.{TooMany}
use Rattle.sim_text.specs.declared.limits.SimLimit.TheVariants.{Nodes, Switches}
use Rattle.sim_text.specs.declared.files.SimFet.{SimFet}
use Rattle.sim_text.specs.declared.files.SimFile.{SimFile}
use Rattle.sim_text.specs.Parts.{is_letter}
use Rattle.switch_net.specs.declared.limits.TheConstants.{MOST_NODES, MOST_SWITCHES}
use Rattle.switch_net.specs.Names.{HasName}
use Rattle.switch_net.specs.Network.{Network}
use Rattle.switch_net.specs.SimRecords.{AreOfOneNode, SimRecords, TransistorLine, names_of, names_of_aliases, names_of_transistors}

abbrev pub transistor_of : SimFet → TransistorLine
transistor_of fet = record { letter = fet.letter; gate = fet.gate; source = fet.source; drain = fet.drain }

-- what of the file makes its network: the letters and names of its transistors, the nodes of its capacitances, and its aliases
abbrev pub records_of : SimFile → SimRecords
records_of sim =
    record { transistors = map transistor_of sim.fets; capacitors = map (λ cap. cap.0) sim.caps; aliases = sim.aliases }

-- the letter makes a switch
abbrev pub HasLetter : SimFet → Type 0
HasLetter fet = is_letter fet.letter ≡ true

-- Some names of the records, more than so many, no two of which are of one node.
pub record HasMoreNodesThan (most : ℕ) (records : SimRecords) : Type 0 where
  pub names : List (List ℕ)
  pub stand : All (λ name. In name (names_of records)) names
  pub apart : AllPairs (λ a b. ¬ (AreOfOneNode records a b)) names
  pub more : most < length names

-- The fault of a file with more nodes than a network may have.
pub record HasTooManyNodes (fault : SimFault) (sim : SimFile) : Type 0 where
  pub is : fault ≡ TooMany Nodes
  pub more : HasMoreNodesThan MOST_NODES (records_of sim)

-- The fault of a file with no more nodes than that, and more switches than a network may have.
pub record HasTooManySwitches (fault : SimFault) (sim : SimFile) : Type 0 where
  pub is : fault ≡ TooMany Switches
  pub few_nodes : ¬ (HasMoreNodesThan MOST_NODES (records_of sim))
  pub more : MOST_SWITCHES < length sim.fets

-- at this place in the list stands a name of the node
abbrev pub StandsAt : List (List ℕ) → List (List ℕ × ℕ) → ℕ → ℕ → Type 0
StandsAt order names v place = (name : List ℕ) × (slice_get order place ≡ Some name) × HasName names v name

-- nodes are numbered in the order of the first places at which their names stand in the list
abbrev pub AreInOrderOf : List (List ℕ) → List (List ℕ × ℕ) → Type 0
AreInOrderOf order names =
    (v w first other : ℕ) → IsLeast ◌≤◌ (StandsAt order names v) first → IsLeast ◌≤◌ (StandsAt order names w) other → first < other → v < w

-- Nodes are numbered by their first capacitances; those without one come after these, by their first transistors and then their first
-- aliases.
abbrev pub IsNumberedByCaps : SimRecords → List (List ℕ × ℕ) → Type 0
IsNumberedByCaps records names =
    AreInOrderOf (records.capacitors ++ names_of_transistors records.transistors ++ names_of_aliases records.aliases) names

-- The nodes of the network stand for these names, in their order: there are as many, and each has the name at its place.
pub record HasNodeForEach (preferred : List (List ℕ)) (net : Network) (names : List (List ℕ × ℕ)) : Type 0 where
  pub as_many : net.nodes ≡ length preferred
  pub named : (v : ℕ) (name : List ℕ) → slice_get preferred v ≡ Some name → HasName names v name
