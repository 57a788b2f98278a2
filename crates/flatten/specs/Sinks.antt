-- Transistors that are given to what takes them.
use Rattle.std.specs.Prelude.{ℕ, List, ◌++◌}
use Rattle.ext_model.specs.declared.records.NodeRec.{NodeRec}
use Rattle.ext_model.specs.declared.records.FetRec.{FetRec}
use Rattle.ext_model.specs.declared.circuits.Circuit.{Circuit}
use Rattle.ext_model.specs.Lawful.{IsLawfulFet}
use Rattle.circuit_model.specs.Elements.{Element}
use Rattle.circuit_model.specs.FlatFets.{AreFlatFets, IsFlatFet}
use Rattle.flatten.specs.declared.sinks.GivenCircuit.{GivenCircuit}

-- each flat transistor of a lawful one is as it is asked for
abbrev pub AllFit : (FetRec → Type 0) → Type 0
AllFit fits =
    (nodes : List NodeRec) (element : Element) (fet flat : FetRec) → IsLawfulFet element.ext fet → IsFlatFet nodes element fet flat → fits flat

-- whatever flat transistors the old sink has, the new one has those and these
abbrev pub GivesFets : {S : Type 0} → (S → List ℕ → List FetRec → Type 0) → List NodeRec → List (Element × FetRec) → S → S → Type 0
GivesFets has nodes more old new =
    (tech : List ℕ) (done : List (Element × FetRec)) (flats : List FetRec) → AreFlatFets nodes done flats → has old tech flats
    → (all : List FetRec) × (AreFlatFets nodes (done ++ more) all × has new tech all)

-- the circuit with these transistors
abbrev pub with_fets : {S : Type 0} → GivenCircuit S → List FetRec → Circuit
with_fets given fets = record { tech = given.tech; classes = given.classes; nodes = given.nodes; fets = fets }

-- with some transistors of which the sink says that it was given them the circuit has this meaning
abbrev pub IsGiven : {S : Type 0} → (S → List ℕ → List FetRec → Type 0) → (Circuit → Type 0) → GivenCircuit S → Type 0
IsGiven has meaning given = (fets : List FetRec) × (has given.sink given.tech fets × meaning (with_fets given fets))
