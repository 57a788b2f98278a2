-- Channels of cells as they stand, and the same channels in the flat layout of the cell above.
use Rattle.std.specs.Prelude.{◌≡◌, ◌↔◌, ℕ, ℤ, pos, IsTrue, Some, slice_get}
use Rattle.finite_sets.specs.Least.{IsLeast}
use Rattle.finite_sets.specs.Total.{Total}
use Rattle.geo_core.specs.declared.transforms.Transform.{Transform}
use Rattle.tree_names.specs.TechModel.declared.raw.RawTech.{RawTech}
use Rattle.tree_names.specs.TechModel.ChannelRoles.{is_channel, is_terminal}
use Rattle.tree_names.specs.LayoutModel.EdgeCounts.{IsEdgeCount}
use Rattle.tree_names.specs.LayoutModel.Layouts.{Layout}
use Rattle.tree_names.specs.LayoutModel.Places.{Place, AreNeighbours, IsNoLater}
use Rattle.tree_names.specs.LayoutModel.Transistors.{AreOneChannel}
use Rattle.tree_names.specs.LayoutModel.CellTrees.{place_back}
use Rattle.tree_names.specs.Offences.Roles.{role_of}
use Rattle.tree_names.specs.TreeRecords.FlatLayouts.{flat_layout}
use Rattle.tree_names.specs.TreeRecords.NamedTrees.{NamedTree, NamedStanding, named_standings, place_forth}

-- Where a layout stands at a transform in a larger one, its channels are channels of the larger one, and what is beside them has the same
-- role
-- in both.
pub record KeepsChannels (raw : RawTech) (own : Layout) (placed : Transform) (flat : Layout) : Type 0 where
  pub same : (place : Place) → IsTrue (is_channel raw (own place)) → flat (place_forth placed place) ≡ own place
  pub roles : (place beside : Place) → AreNeighbours place beside → IsTrue (is_channel raw (own place))
      → role_of raw (own place) (Some (flat (place_forth placed beside))) ≡ role_of raw (own place) (Some (own beside))

-- Exactly one cell as it stands, told by its position among them, has as its own type at the place what the flat layout has there.
pub record HasOneOwner (raw : RawTech) (tree : NamedTree) (place : Place) : Type 0 where
  pub position : ℕ
  pub standing : NamedStanding
  pub there : slice_get (named_standings tree) position ≡ Some standing
  pub owns : standing.own.layout (place_back standing.placed place) ≡ flat_layout raw tree place
  pub alone : (other : ℕ) (next : NamedStanding) → slice_get (named_standings tree) other ≡ Some next
      → next.own.layout (place_back next.placed place) ≡ flat_layout raw tree place → other ≡ position

-- The channels of the flat layout are the own channels of the cells as they stand, each of one of them.
pub record OwnsItsChannels (raw : RawTech) (tree : NamedTree) : Type 0 where
  pub kept : (position : ℕ) (standing : NamedStanding) → slice_get (named_standings tree) position ≡ Some standing
      → KeepsChannels raw standing.own.layout standing.placed (flat_layout raw tree)
  pub owned : (place : Place) → IsTrue (is_channel raw (flat_layout raw tree place)) → HasOneOwner raw tree place

-- how many edges lead out of the set of one channel that the place is of
abbrev pub IsChannelPerimeter : Layout → Place → ℤ → Type 0
IsChannelPerimeter layout from = IsEdgeCount (AreOneChannel layout from) (λ place. AreOneChannel layout from place → ⊥)

-- how many edges lead from it to places of a terminal's type
abbrev pub IsTerminalEdgeCount : RawTech → Layout → Place → ℤ → Type 0
IsTerminalEdgeCount raw layout from = IsEdgeCount (AreOneChannel layout from)
    (λ place. IsTrue (is_terminal raw (layout from) (layout place)))

-- The set of one channel that the place is of in the layout goes to the set of one channel in the larger one in which it stands at the
-- transform. Both have as many squares, as many edges that lead out, and as many to places of a terminal's type.
pub record IsSameChannel (raw : RawTech) (own : Layout) (placed : Transform) (flat : Layout) (from : Place) : Type 0 where
  pub places : (to : Place) → AreOneChannel own from to ↔ AreOneChannel flat (place_forth placed from) (place_forth placed to)
  pub area : (n : ℤ) → Total (AreOneChannel own from) (λ place. pos 1) n
      ↔ Total (AreOneChannel flat (place_forth placed from)) (λ place. pos 1) n
  pub perimeter : (n : ℤ) → IsChannelPerimeter own from n ↔ IsChannelPerimeter flat (place_forth placed from) n
  pub terminals : (n : ℤ) → IsTerminalEdgeCount raw own from n ↔ IsTerminalEdgeCount raw flat (place_forth placed from) n

-- A transistor without its nodes: the type of its channel and its least place, how many squares it has and how many edges lead out of it.
pub record ChannelSet : Type 0 where
  pub kind : ℕ
  pub least : Place
  pub area : ℤ
  pub perimeter : ℤ

-- This is the set of one channel in the layout that has its least place.
pub record IsChannelSet (raw : RawTech) (layout : Layout) (set : ChannelSet) : Type 0 where
  pub listed : IsTrue (is_channel raw set.kind)
  pub kind : layout set.least ≡ set.kind
  pub least : IsLeast IsNoLater (AreOneChannel layout set.least) set.least
  pub area : Total (AreOneChannel layout set.least) (λ place. pos 1) set.area
  pub perimeter : IsChannelPerimeter layout set.least set.perimeter

-- The second is what the first becomes in the larger layout in which its layout stands at the transform: its places go there, and it is of
-- the
-- same type and as large.
pub record GoesTo (own : Layout) (placed : Transform) (flat : Layout) (below above : ChannelSet) : Type 0 where
  pub places : (place : Place) → AreOneChannel own below.least place ↔ AreOneChannel flat above.least (place_forth placed place)
  pub kind : above.kind ≡ below.kind
  pub area : above.area ≡ below.area
  pub perimeter : above.perimeter ≡ below.perimeter

-- The set of an own layout goes to one of the flat layout.
pub record HasSetAbove (raw : RawTech) (tree : NamedTree) (standing : NamedStanding) (below : ChannelSet) : Type 0 where
  pub above : ChannelSet
  pub is : IsChannelSet raw (flat_layout raw tree) above
  pub goes : GoesTo standing.own.layout standing.placed (flat_layout raw tree) below above

-- The set of the flat layout is what a set of one cell as it stands becomes, and of no other.
pub record HasSetBelow (raw : RawTech) (tree : NamedTree) (above : ChannelSet) : Type 0 where
  pub position : ℕ
  pub standing : NamedStanding
  pub there : slice_get (named_standings tree) position ≡ Some standing
  pub below : ChannelSet
  pub is : IsChannelSet raw standing.own.layout below
  pub goes : GoesTo standing.own.layout standing.placed (flat_layout raw tree) below above
  pub alone : (other : ℕ) (next : NamedStanding) (set : ChannelSet) → slice_get (named_standings tree) other ≡ Some next
      → IsChannelSet raw next.own.layout set → GoesTo next.own.layout next.placed (flat_layout raw tree) set above → other ≡ position
