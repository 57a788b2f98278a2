-- What holds of the networks of flat circuits.
use Rattle.std.specs.Prelude.{ℕ, List, All, map}
use Rattle.tech_model.specs.declared.raw.RawTech.{RawTech}
use Rattle.full_names.specs.ExtModel.declared.records.CellExt.{CellExt}
use Rattle.full_names.specs.ExtModel.declared.circuits.Circuit.{Circuit}
use Rattle.full_names.specs.CircuitModel.Elements.{AreRecords}
use Rattle.full_names.specs.CircuitModel.Refusals.{IsFlatOf}
use Rattle.tree_records.specs.NamedTrees.{NamedTree}
use Rattle.tree_records.specs.TreeCircuits.{IsFlatCircuit}
use Rattle.sim_records.specs.SimRecords.{sim_of}
use Rattle.sim_networks.specs.SwitchNet.declared.limits.TheConstants.{MOST_NODES}
use Rattle.sim_networks.specs.SwitchNet.Network.{Network}
use Rattle.sim_networks.specs.SwitchNet.SimRecords.{IsNetworkOf}
use Rattle.sim_networks.specs.SimNetworks.{HasLetter, HasMoreNodesThan, HasNodeForEach, IsNumberedByCaps, records_of}

-- the flat circuit of records has no more nodes than a network may have
abbrev pub FlatNetworksFit : Type 0
FlatNetworksFit =
    (exts : List CellExt) (root : List ℕ) (circuit : Circuit) → AreRecords exts → IsFlatOf exts root circuit
    → ¬ (HasMoreNodesThan MOST_NODES (records_of (sim_of circuit)))

-- each transistor of the circuit of a cell's flat layout has a letter that makes a switch
abbrev pub FlatCircuitsHaveLetters : RawTech → Type 0
FlatCircuitsHaveLetters tech =
    (tree : NamedTree) (circuit : Circuit) → IsFlatCircuit tech tree circuit → All HasLetter (sim_of circuit).fets

-- the nodes of the network of the flat circuit of records are those of the circuit, in the same order
abbrev pub FlatNetworksHaveTheNodes : Type 0
FlatNetworksHaveTheNodes =
    (exts : List CellExt) (root : List ℕ) (circuit : Circuit) (net : Network) (names : List (List ℕ × ℕ)) → AreRecords exts
    → IsFlatOf exts root circuit → IsNetworkOf (records_of (sim_of circuit)) net names → IsNumberedByCaps (records_of (sim_of circuit)) names
    → HasNodeForEach (map (λ node. node.name) circuit.nodes) net names
