-- The law of groups and records, as a statement.
use Rattle.std.specs.Prelude.{ℕ, List}
use Rattle.tech_model.specs.declared.raw.RawTech.{RawTech}
use Rattle.tech_model.specs.WellFormed.{IsWellFormed}
use Rattle.tech_model.specs.Rules.{KeepsRules}
use Rattle.layout_model.specs.Places.{Place}
use Rattle.ext_model.specs.declared.records.CellExt.{CellExt}
use Rattle.group_meetings.specs.TreeRecords.NamedTrees.{NamedTree}
use Rattle.group_meetings.specs.TreeRecords.MemberGroups.{IsGroupName, IsMemberAt}
use Rattle.group_meetings.specs.TreeNames.CleanTrees.{IsCleanTree}
use Rattle.group_meetings.specs.TreeRecords.TreeRecords.{IsTreeRecord}
use Rattle.tile_members.specs.MergedMembers.{first_member}

-- the record of a clean cell tells the name of the group of each member
abbrev pub RecordsTellGroups : RawTech → Type 0
RecordsTellGroups raw =
    IsWellFormed raw → KeepsRules raw → (tree : NamedTree) (ext : CellExt) → IsCleanTree raw tree → IsTreeRecord raw tree ext
    → (place : Place) (member : List ℕ) → IsMemberAt raw tree place member → IsGroupName raw tree place (first_member ext.merges member)
