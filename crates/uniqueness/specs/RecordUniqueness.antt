-- What a cell with all that stands below it determines of its records, as statements. The technology is to be lawful and the tree clean: then
-- names tell members apart, and each place of a member has material in the flat layout, so that the merges tell of its group.
use Rattle.std.specs.Prelude.{◌≡◌, ℕ, Some, List}
use Rattle.finite_sets.specs.Lists.{In}
use Rattle.tech_model.specs.declared.raw.RawTech.{RawTech}
use Rattle.tech_model.specs.Rules.{KeepsRules}
use Rattle.tech_model.specs.WellFormed.{IsWellFormed}
use Rattle.ext_model.specs.declared.records.CellExt.{CellExt}
use Rattle.ext_model.specs.declared.records.MergeRec.{MergeRec}
use Rattle.tree_circuits.specs.TreeNames.CircuitModel.Elements.{ext_of}
use Rattle.tree_circuits.specs.TreeNames.CleanTrees.{IsCleanTree}
use Rattle.tree_circuits.specs.TreeRecords.Merges.{AreGroupMerges}
use Rattle.tree_circuits.specs.TreeRecords.TreeRecords.{HasTreeRecords, IsTreeRecord}
use Rattle.tree_circuits.specs.TreeNames.TreeRecords.NamedTrees.{NamedStanding, NamedTree, named_standings}

-- the groups of a clean cell have one list of merges
abbrev pub GroupMergesAreUnique : Type 0
GroupMergesAreUnique =
    (raw : RawTech) (tree : NamedTree) (merges others : List MergeRec) → IsWellFormed raw → KeepsRules raw → IsCleanTree raw tree
    → AreGroupMerges raw tree merges → AreGroupMerges raw tree others → merges ≡ others

-- a clean cell has one record
abbrev pub TreeRecordsAreUnique : Type 0
TreeRecordsAreUnique =
    (raw : RawTech) (tree : NamedTree) (ext other : CellExt) → IsWellFormed raw → KeepsRules raw → IsCleanTree raw tree
    → IsTreeRecord raw tree ext → IsTreeRecord raw tree other → ext ≡ other

-- One record is found under the name in both lists.
pub record IsFoundInBoth (exts others : List CellExt) (name : List ℕ) : Type 0 where
  pub ext : CellExt
  pub here : ext_of exts name ≡ Some ext
  pub there : ext_of others name ≡ Some ext

-- two lists of the records of a clean cell and of all cells below it have one record under the name of each of these
abbrev pub RecordsOfTreesAreUnique : Type 0
RecordsOfTreesAreUnique =
    (raw : RawTech) (tree : NamedTree) (exts others : List CellExt) → IsWellFormed raw → KeepsRules raw → IsCleanTree raw tree
    → HasTreeRecords raw exts tree → HasTreeRecords raw others tree
    → (standing : NamedStanding) → In standing (named_standings tree) → IsFoundInBoth exts others standing.own.name
