-- The circuits whose sim records a text can have.
use Rattle.std.specs.Prelude.{◌≡◌, true, All, FitsSigned}
use Rattle.std.specs.Int.{w128}
use Rattle.ext_model.specs.declared.records.NodeRec.{NodeRec}
use Rattle.ext_model.specs.declared.records.FetRec.{FetRec}
use Rattle.ext_model.specs.declared.circuits.Circuit.{Circuit}
use Rattle.sim_text.specs.Parts.{is_sim_name, is_letter}
use Rattle.sim_records.specs.Switches.{letter_of}

-- The preferred name and the aliases of the node are names of a sim file.
pub record HasSimNodeNames (node : NodeRec) : Type 0 where
  pub name : is_sim_name node.name ≡ true
  pub aliases : All (λ alias. is_sim_name alias ≡ true) node.aliases

-- The transistor has a letter of a sim file, and its gate and its terminals have names of one.
pub record HasSimFetNames (fet : FetRec) : Type 0 where
  pub letter : is_letter (letter_of fet.kind) ≡ true
  pub gate : is_sim_name fet.gate.node ≡ true
  pub terminals : All (λ side. is_sim_name side.node ≡ true) fet.terminals

-- The technology's name and all names of nodes are names of a sim file, and so are the letters of transistors.
pub record HasSimNames (circuit : Circuit) : Type 0 where
  pub tech : is_sim_name circuit.tech ≡ true
  pub nodes : All HasSimNodeNames circuit.nodes
  pub fets : All HasSimFetNames circuit.fets

-- The point, the area and the terminals' lengths of the transistor fit 128 bits with sign.
pub record HasFetNumbersThatFit (fet : FetRec) : Type 0 where
  pub x : FitsSigned w128 fet.x
  pub y : FitsSigned w128 fet.y
  pub area : FitsSigned w128 fet.area
  pub lengths : All (λ side. FitsSigned w128 side.length) fet.terminals

-- The numbers that sim records are made of fit 128 bits with sign, as those of every circuit in memory do.
pub record HasNumbersThatFit (circuit : Circuit) : Type 0 where
  pub caps : All (λ node. FitsSigned w128 node.cap) circuit.nodes
  pub fets : All HasFetNumbersThatFit circuit.fets
