-- What the meaning of records is held to.
use Rattle.std.specs.Prelude.{◌≡◌, ℕ, List, All}
use Rattle.full_names.specs.ExtModel.declared.records.CellExt.{CellExt}
use Rattle.full_names.specs.ExtModel.declared.circuits.Circuit.{Circuit}
use Rattle.full_names.specs.ExtModel.declared.records.FetRec.{FetRec}
use Rattle.full_names.specs.ExtModel.declared.records.NodeRec.{NodeRec}
use Rattle.full_names.specs.ExtModel.Lawful.{IsLawfulFet}
use Rattle.full_names.specs.CircuitModel.Circuits.{IsMeaning}
use Rattle.full_names.specs.CircuitModel.Elements.{AreRecords, Element}
use Rattle.full_names.specs.CircuitModel.FlatFets.{IsFlatFet}
use Rattle.full_names.specs.CircuitModel.Refusals.{IsFlatOf}
use Rattle.sim_records.specs.SimRecords.{HasLetterAndLengths}

-- two circuits that records mean at one root are one, whether the records are lawful or not
abbrev pub CircuitsAreUnique : Type 0
CircuitsAreUnique = (exts : List CellExt) (root : CellExt) (one other : Circuit) → IsMeaning exts root one → IsMeaning exts root other → one ≡ other

-- each transistor of a flat circuit has a name, and lengths of a size that can be added, so that sim records can be made of it
abbrev pub FlatTransistorsHaveLetterAndLengths : Type 0
FlatTransistorsHaveLetterAndLengths =
    (exts : List CellExt) (root : List ℕ) (circuit : Circuit) → AreRecords exts → IsFlatOf exts root circuit → All HasLetterAndLengths circuit.fets

-- each flat transistor of a lawful one has such a name and such lengths
abbrev pub FlatTransistorHasLetterAndLengths : Type 0
FlatTransistorHasLetterAndLengths =
    (nodes : List NodeRec) (element : Element) (fet flat : FetRec) → IsLawfulFet element.ext fet → IsFlatFet nodes element fet flat
    → HasLetterAndLengths flat
