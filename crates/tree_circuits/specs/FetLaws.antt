-- The laws of transistors in cells that use each other, as statements.
use Rattle.std.specs.Prelude.{◌≡◌, ◌≤◌, ℕ, ℤ, IsTrue, List, Some, slice_get}
use Rattle.tree_names.specs.TechModel.declared.raw.RawTech.{RawTech}
use Rattle.tree_names.specs.TechModel.ChannelRoles.{is_channel}
use Rattle.tree_names.specs.TechModel.Rules.{KeepsRules}
use Rattle.tree_names.specs.TechModel.WellFormed.{IsWellFormed}
use Rattle.tree_names.specs.ExtModel.declared.records.CellExt.{CellExt}
use Rattle.tree_names.specs.ExtModel.declared.records.FetRec.{FetRec}
use Rattle.tree_names.specs.ExtModel.declared.records.NodeRec.{NodeRec}
use Rattle.tree_names.specs.LayoutModel.Places.{Place}
use Rattle.tree_names.specs.LayoutModel.Transistors.{IsTransistor, Transistor}
use Rattle.tree_names.specs.LayoutModel.FlatSets.{IsTyped}
use Rattle.tree_names.specs.HierarchyModel.CleanCells.{IsClean}
use Rattle.tree_names.specs.CircuitModel.declared.limits.TheConstants.{LONGEST_CHAIN}
use Rattle.tree_names.specs.CircuitModel.Elements.{elements_of, ext_of}
use Rattle.tree_names.specs.CircuitModel.FlatFets.{AreFlatFets, fets_of}
use Rattle.tree_names.specs.CircuitModel.FlatNodes.{AreFlatNodes}
use Rattle.tree_names.specs.TreeRecords.FetRecords.{IsOfNode}
use Rattle.tree_names.specs.TreeRecords.FlatLayouts.{flat_layout}
use Rattle.tree_names.specs.TreeRecords.NamedTrees.{NamedTree, NamedStanding, layouts_of, named_standings, own_body}
use Rattle.tree_circuits.specs.Channels.{ChannelSet, HasSetAbove, HasSetBelow, IsChannelSet, IsSameChannel, OwnsItsChannels}
use Rattle.tree_names.specs.TreeRecords.TreeCircuits.{AreFlatFetRecords}
use Rattle.tree_names.specs.TreeRecords.TreeRecords.{HasTreeRecords}
use Rattle.tree_names.specs.CleanTrees.{IsCleanTree, depth_of}
use Rattle.tree_circuits.specs.Terminals.{AreRenamed, GivesFlatNames, HasTransistorAbove}

-- the channels of a clean cell's flat layout are own channels of the cells as they stand, each of exactly one
abbrev pub ChannelsAreOwned : Type 0
ChannelsAreOwned =
    (raw : RawTech) (tree : NamedTree) → IsWellFormed raw → KeepsRules raw → IsTyped raw (layouts_of tree) → IsClean raw (layouts_of tree)
    → OwnsItsChannels raw tree

-- the set of one channel of each own layout is the set of one channel of the flat layout, where the cell stands
abbrev pub ChannelsStayTheSame : Type 0
ChannelsStayTheSame =
    (raw : RawTech) (tree : NamedTree) → IsWellFormed raw → KeepsRules raw → IsTyped raw (layouts_of tree) → IsClean raw (layouts_of tree)
    → (position : ℕ) (standing : NamedStanding) → slice_get (named_standings tree) position ≡ Some standing
    → (place : Place) → IsTrue (is_channel raw (standing.own.layout place))
    → IsSameChannel raw standing.own.layout standing.placed (flat_layout raw tree) place

-- The sets of one channel of the flat layout are those of the cells as they stand: each of these becomes one, and each is what one of one
-- cell
-- becomes.
pub record OwnsItsSets (raw : RawTech) (tree : NamedTree) : Type 0 where
  pub above : (position : ℕ) (standing : NamedStanding) → slice_get (named_standings tree) position ≡ Some standing
      → (below : ChannelSet) → IsChannelSet raw standing.own.layout below → HasSetAbove raw tree standing below
  pub below : (above : ChannelSet) → IsChannelSet raw (flat_layout raw tree) above → HasSetBelow raw tree above

-- each transistor of a clean cell's flat layout, nodes left out, is that of one cell as it stands
abbrev pub ChannelSetsAreOwned : Type 0
ChannelSetsAreOwned =
    (raw : RawTech) (tree : NamedTree) → IsWellFormed raw → KeepsRules raw → IsTyped raw (layouts_of tree) → IsClean raw (layouts_of tree)
    → OwnsItsSets raw tree

-- each transistor of a cell as it stands is one of the flat layout, with its terminals by the names of flat nodes
abbrev pub TransistorsAreOfTheFlatLayout : Type 0
TransistorsAreOfTheFlatLayout =
    (raw : RawTech) (tree : NamedTree) → IsWellFormed raw → KeepsRules raw → IsTyped raw (layouts_of tree) → IsClean raw (layouts_of tree)
    → (position : ℕ) (standing : NamedStanding) → slice_get (named_standings tree) position ≡ Some standing
    → (rename : List ℕ → List ℕ) → GivesFlatNames raw tree standing rename
    → (fet : Transistor (List ℕ)) → IsTransistor raw standing.own.layout (IsOfNode raw standing.own.layout standing.own.labels) fet
    → (terminals : List (List ℕ × ℤ)) → AreRenamed rename fet.terminals terminals
    → HasTransistorAbove raw tree standing rename fet terminals

-- the flat transistors that the records of a clean cell and of all below it mean are the records of those of the flat layout
abbrev pub FlatFetsAreRecords : Type 0
FlatFetsAreRecords =
    (raw : RawTech) (exts : List CellExt) (tree : NamedTree) (root : CellExt) (classes : ℕ) (nodes : List NodeRec) (flats : List FetRec)
    → IsWellFormed raw → KeepsRules raw → IsCleanTree raw tree → HasTreeRecords raw exts tree → ext_of exts (own_body tree).name ≡ Some root
    → depth_of tree ≤ LONGEST_CHAIN → AreFlatNodes (elements_of exts root) classes nodes
    → AreFlatFets nodes (fets_of (elements_of exts root)) flats → AreFlatFetRecords raw tree flats
