-- The nodes that the rows and columns of a stack are set by: that its circuit has them, and the network of its circuit.
use Rattle.std.specs.Prelude.{◌≡◌, ◌<◌, ◌+◌, ℕ, List, length, Some}
use Rattle.tech_model.specs.GeoCore.FiniteSets.Lists.{In}
use Rattle.tech_model.specs.Rules.{KeepsRules}
use Rattle.tech_model.specs.WellFormed.{IsWellFormed}
use Rattle.library_trees.specs.CellLibrary.Views.{LibraryView}
use Rattle.ext_model.specs.declared.circuits.Circuit.{Circuit}
use Rattle.ext_model.specs.declared.records.NodeRec.{NodeRec}
use Rattle.ext_model.specs.RecordNames.{names_of}
use Rattle.layout_gen.specs.Generated.{IsGenerated}
use Rattle.library_trees.specs.NamedCells.{named_tree_at}
use Rattle.library_trees.specs.TreeRecords.TreeCircuits.{IsFlatCircuit}
use Rattle.sim_records.specs.SimRecords.{sim_of}
use Rattle.sim_networks.specs.SimNetworks.{records_of}
use Rattle.switch_net.specs.Network.{Network}
use Rattle.switch_net.specs.SimRecords.{IsNetworkOf}
use Rattle.vector_files.specs.LineForms.{node_named}
use Rattle.stack_runs.specs.StackVectors.{column_name, row_name}

-- One of the nodes has the name, as its preferred one or as an alias.
pub record HasNodeOfName (nodes : List NodeRec) (name : List ℕ) : Type 0 where
  pub node : NodeRec
  pub listed : In node nodes
  pub named : In name (names_of node)

-- The network has a node of the name.
abbrev pub NetworkHasName : List (List ℕ × ℕ) → List ℕ → Type 0
NetworkHasName names name = (v : ℕ) × (node_named names name ≡ Some v)

-- The fact holds of the name of each row and of each column of a stack of n rows of n tiles.
pub record OfRowsAndColumns (Has : List ℕ → Type 0) (n : ℕ) : Type 0 where
  pub rows : (j : ℕ) → j < n → Has (row_name j)
  pub columns : (i : ℕ) → i < n → Has (column_name i)

-- The circuit is that of the flat layout of the stack of n rows of n tiles that was made in this library, whose technology is lawful.
pub record IsStackCircuit (before : LibraryView) (n : ℕ) (circuit : Circuit) : Type 0 where
  pub well_formed : IsWellFormed before.tech
  pub rules : KeepsRules before.tech
  pub after : LibraryView
  pub made : IsGenerated before n after
  -- the stack is the last of the three cells that came
  pub is_circuit : IsFlatCircuit after.tech (named_tree_at after (length before.cells + 2)) circuit

-- the circuit of a stack has a node for each row and each column
abbrev pub StackCircuitsHaveTheirNodes : Type 0
StackCircuitsHaveTheirNodes =
    (before : LibraryView) (n : ℕ) (circuit : Circuit) → IsStackCircuit before n circuit → OfRowsAndColumns (HasNodeOfName circuit.nodes) n

-- and so has the network of its sim records
abbrev pub StackNetworksHaveTheirNodes : Type 0
StackNetworksHaveTheirNodes =
    (before : LibraryView) (n : ℕ) (circuit : Circuit) (net : Network) (names : List (List ℕ × ℕ)) → IsStackCircuit before n circuit
    → IsNetworkOf (records_of (sim_of circuit)) net names → OfRowsAndColumns (NetworkHasName names) n
