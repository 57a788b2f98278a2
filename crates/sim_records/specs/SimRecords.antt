-- The sim records of a circuit.
use Rattle.std.specs.Prelude.{◌≡◌, ◌≢◌, ◌<◌, ℕ, ℤ, List, [], map, length, All}
use Rattle.std.specs.Int.{int_div_euclid}
use Rattle.std.specs.Int.RustNames.{unsigned_abs}
use Rattle.std.specs.List.{flat_map}
use Rattle.ext_model.specs.declared.limits.TheConstants.{LENGTHS_EDGE}
use Rattle.ext_model.specs.declared.records.NodeRec.{NodeRec}
use Rattle.ext_model.specs.declared.records.FetRec.{FetRec}
use Rattle.ext_model.specs.declared.circuits.Circuit.{Circuit}
use Rattle.sim_text.specs.declared.faults.SimFault.{SimFault}
use Rattle.sim_text.specs.declared.faults.SimFault.TheVariants.{TooMany}
use Rattle.sim_text.specs.declared.limits.SimLimit.TheVariants.{Switches}
use Rattle.sim_text.specs.declared.files.SimFile.{SimFile}
use Rattle.sim_records.specs.declared.limits.TheConstants.{MOST_SWITCHES, ATTOFARADS_IN_A_UNIT}
use Rattle.sim_records.specs.Switches.{switches_of}

-- a node and its capacitance in units of a sim file, rounded down
abbrev pub cap_of : NodeRec → List ℕ × ℤ
cap_of node = (node.name, int_div_euclid node.cap ATTOFARADS_IN_A_UNIT)

-- the aliases of a node, each with its preferred name before it
abbrev pub aliases_of : NodeRec → List (List ℕ × List ℕ)
aliases_of node = map (λ alias. (node.name, alias)) node.aliases

-- the sim records of a circuit: the switches of each transistor, the capacitance of each node, the aliases of each node
abbrev pub sim_of : Circuit → SimFile
sim_of circuit = record {
  tech = circuit.tech;
  fets = flat_map switches_of circuit.fets;
  caps = map cap_of circuit.nodes;
  aliases = flat_map aliases_of circuit.nodes;
}

-- The transistor has a name, and lengths of a size that can be added.
pub record HasLetterAndLengths (fet : FetRec) : Type 0 where
  pub letter : fet.kind ≢ []
  pub lengths : All (λ side. unsigned_abs side.length < LENGTHS_EDGE) fet.terminals

-- the fault of a circuit with more switches than there may be
abbrev pub HasTooManySwitches : SimFault → Circuit → Type 0
HasTooManySwitches fault circuit = (fault ≡ TooMany Switches) × (MOST_SWITCHES < length (sim_of circuit).fets)
