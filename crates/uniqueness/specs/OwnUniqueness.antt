-- What a cell's own paint and labels determine of its record, as statements.
use Rattle.std.specs.Prelude.{◌≡◌, ℕ, List}
use Rattle.tech_model.specs.declared.raw.Label.{Label}
use Rattle.tech_model.specs.declared.raw.RawTech.{RawTech}
use Rattle.tech_model.specs.WellFormed.{IsWellFormed}
use Rattle.ext_model.specs.declared.records.CellExt.{CellExt}
use Rattle.ext_model.specs.declared.records.FetRec.{FetRec}
use Rattle.ext_model.specs.declared.records.NodeRec.{NodeRec}
use Rattle.tree_circuits.specs.OwnRecordLaws.CellNodes.LayoutModel.Layouts.{Layout}
use Rattle.tree_circuits.specs.OwnRecordLaws.CellNodes.NodeRecords.{AreNodeRecords}
use Rattle.tree_circuits.specs.OwnRecordLaws.Names.Attachments.{AreUnattached}
use Rattle.tree_circuits.specs.OwnRecordLaws.TreeRecords.FetRecords.{AreFetRecords, IsNameBefore, IsNodeBefore}
use Rattle.tree_circuits.specs.OwnRecordLaws.TreeRecords.OwnRecords.{IsOwnRecord}

-- a layout has one list of the texts of labels that name no place
abbrev pub UnattachedTextsAreUnique : Type 0
UnattachedTextsAreUnique =
    (raw : RawTech) (layout : Layout) (labels : List Label) (texts others : List (List ℕ))
    → AreUnattached raw layout labels texts → AreUnattached raw layout labels others → texts ≡ others

-- a layout with labels has one list of node records
abbrev pub NodeRecordsAreUnique : Type 0
NodeRecordsAreUnique =
    (raw : RawTech) (layout : Layout) (labels : List Label) (nodes others : List NodeRec)
    → AreNodeRecords raw layout labels nodes → AreNodeRecords raw layout labels others → nodes ≡ others

-- A layout with labels has one list of transistor records, where terminals stand by the least places of their nodes, and one where they stand
-- by the names of these. The technology is to be well formed: then it has one rule for each channel.
abbrev pub FetRecordsAreUnique : Type 0
FetRecordsAreUnique =
    (raw : RawTech) (layout : Layout) (labels : List Label) (fets others : List FetRec) → IsWellFormed raw
    → (AreFetRecords raw layout labels (IsNodeBefore raw layout labels) fets → AreFetRecords raw layout labels (IsNodeBefore raw layout labels) others
    → fets ≡ others)
    × (AreFetRecords raw layout labels IsNameBefore fets → AreFetRecords raw layout labels IsNameBefore others → fets ≡ others)

-- a cell without uses has one record in a well-formed technology
abbrev pub OwnRecordsAreUnique : Type 0
OwnRecordsAreUnique =
    (raw : RawTech) (layout : Layout) (labels : List Label) (name : List ℕ) (ext other : CellExt) → IsWellFormed raw
    → IsOwnRecord raw layout labels name ext → IsOwnRecord raw layout labels name other → ext ≡ other
