-- Why circuit files are refused, and records that mean no circuit.
use Rattle.std.specs.Prelude.{List, [], ◌++◌, codes, ℕ}
use Rattle.line_answers.specs.declared.refusals.Refusal.{Refusal}
use Rattle.line_answers.specs.Refusals.{at_line_text, cycle_text, file_fault_text, no_cell_text, of_inside, too_many_text}
use Rattle.circuit_model.specs.declared.faults.FlatFault.{FlatFault}
use Rattle.circuit_model.specs.declared.faults.FlatFault.TheVariants as flat
use Rattle.circuit_model.specs.declared.limits.CircuitLimit.{CircuitLimit}
use Rattle.circuit_model.specs.declared.limits.CircuitLimit.TheVariants as circuit
use Rattle.ext_reading.specs.declared.faults.ExtReadFault.{ExtReadFault}
use Rattle.ext_reading.specs.declared.faults.ExtReadFault.TheVariants as ext
use Rattle.ext_loading.specs.declared.faults.ExtLoadFault.{ExtLoadFault}
use Rattle.ext_loading.specs.declared.faults.ExtLoadFault.TheVariants as tree
use Rattle.ext_loading.specs.Loads.{cause_of_load as cause_of_tree}
use Rattle.circuit_commands.specs.declared.limits.Limit.{Limit}
use Rattle.circuit_commands.specs.declared.limits.Limit.TheVariants as limits

-- what the records of a circuit have too many of
abbrev pub circuit_limit_word : CircuitLimit → List ℕ
circuit_limit_word circuit.Depth = codes "Depth"
circuit_limit_word circuit.Elements = codes "Elements"
circuit_limit_word circuit.Nodes = codes "Nodes"
circuit_limit_word circuit.Names = codes "Names"
circuit_limit_word circuit.Merges = codes "Merges"

-- what a circuit, its sim records or its text have too many of
abbrev pub limit_word : Limit → List ℕ
limit_word (limits.Circuit limit) = circuit_limit_word limit
limit_word limits.Switches = codes "Switches"
limit_word limits.Text = codes "Text"

-- the code of a fault of a circuit file
abbrev pub ext_code : ExtReadFault → List ℕ
ext_code ext.BadLine = codes "X1"
ext_code ext.NoHeader = codes "X2"
ext_code ext.Version = codes "X3"
ext_code ext.NameTwice = codes "X4"
ext_code ext.Range = codes "X5"
ext_code ext.Transform = codes "X6"
ext_code ext.UseTwice = codes "X7"
ext_code ext.NoName = codes "X8"
ext_code ext.Memory = []

-- why the circuit files of a tree can't be read
abbrev pub tree_fault_text : ExtLoadFault → List ℕ
tree_fault_text (tree.File file fault) = file_fault_text file fault
tree_fault_text (tree.Ext file at) = at_line_text (codes "E23 ") file at.line (ext_code at.fault)
tree_fault_text tree.TooManyCells = too_many_text (codes "Cells")
tree_fault_text (tree.Cycle cell) = cycle_text cell

abbrev pub tree_refusal : ExtLoadFault → Refusal
tree_refusal fault = record { cause = cause_of_tree fault; text = tree_fault_text fault }

-- Why the records of a tree mean no circuit. Each use of a tree that was read leads to a record, and none leads back.
abbrev pub flat_fault_text : FlatFault → List ℕ
flat_fault_text (flat.NoCell cell) = no_cell_text cell
flat_fault_text (flat.Cycle cell) = cycle_text cell
flat_fault_text (flat.TooMany limit) = too_many_text (circuit_limit_word limit)
flat_fault_text (flat.Classes cell) = codes "E24 classes " ++ cell
flat_fault_text (flat.NoPath cell path) = codes "E24 no path " ++ cell ++ codes " " ++ path
flat_fault_text flat.Memory = []

abbrev pub flat_refusal : FlatFault → Refusal
flat_refusal fault = of_inside (flat_fault_text fault)
