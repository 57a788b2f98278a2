-- The circuit of a cell's flat layout.
use Rattle.std.specs.Prelude.{◌≡◌, ◌⊎◌, ◌↔◌, ◌<◌, ℕ, IsTrue, List, length, map, AllPairs, Some, slice_get, slice_index_or}
use Rattle.circuit_model.specs.FiniteSets.Least.{IsLeast}
use Rattle.circuit_model.specs.FiniteSets.Lists.{In}
use Rattle.circuit_model.specs.GeoCore.Images.{image}
use Rattle.tree_records.specs.TechModel.declared.raw.FetRule.{FetRule}
use Rattle.tree_records.specs.TechModel.declared.raw.RawTech.{RawTech}
use Rattle.tree_records.specs.TechModel.ChannelRoles.{is_channel}
use Rattle.tree_records.specs.LayoutModel.Layouts.{IsMaterial}
use Rattle.tree_records.specs.LayoutModel.Nodes.{AreMeasures}
use Rattle.tree_records.specs.LayoutModel.Places.{Place, IsBefore, IsNoLater}
use Rattle.tree_records.specs.LayoutModel.Technologies.{capacitance, rules_of}
use Rattle.tree_records.specs.LayoutModel.Transistors.{AreOneChannel, IsTransistor, Transistor, gate_length}
use Rattle.tree_records.specs.LayoutModel.CellTrees.{place_back}
use Rattle.circuit_model.specs.ExtModel.declared.circuits.Circuit.{Circuit}
use Rattle.circuit_model.specs.ExtModel.declared.records.FetRec.{FetRec}
use Rattle.circuit_model.specs.ExtModel.declared.records.NodeRec.{NodeRec}
use Rattle.circuit_model.specs.ExtModel.Paths.{full_name}
use Rattle.circuit_model.specs.ExtModel.RecordNames.{names_of}
use Rattle.tree_records.specs.Names.NamedNodes.{AreOneNamedNode, IsNameOf}
use Rattle.circuit_model.specs.FullNames.{AreInNameOrder}
use Rattle.tree_records.specs.FetRecords.{IsNoLaterName, terminal_names}
use Rattle.tree_records.specs.OwnRecords.{class_values}
use Rattle.tree_records.specs.NamedTrees.{NamedTree, NamedStanding, named_standings, place_forth}
use Rattle.tree_records.specs.FlatLayouts.{flat_layout, AreOneFlatNode, IsFlatName, IsOfFlatNode}

-- The own layout of the instance has a node with this least place whose preferred name, as a full name, is this.
pub record HasNodeNamed (raw : RawTech) (standing : NamedStanding) (name : List ℕ) (least : Place) : Type 0 where
  pub material : IsMaterial standing.own.layout least
  pub is_least : IsLeast IsNoLater (AreOneNamedNode raw standing.own.layout standing.own.labels least) least
  pub own_name : List ℕ
  pub first : IsLeast IsNoLaterName (IsNameOf raw standing.own.layout standing.own.labels least) own_name
  pub full : name ≡ full_name standing.ids own_name

-- The point and the kind of the record are those of the node with that preferred name in the first instance that has one: its least place,
-- taken to the top, and the word of the own type there.
pub record IsPointOf (raw : RawTech) (tree : NamedTree) (node : NodeRec) : Type 0 where
  pub position : ℕ
  pub standing : NamedStanding
  pub there : slice_get (named_standings tree) position ≡ Some standing
  pub least : Place
  pub has : HasNodeNamed raw standing node.name least
  pub none_before : (earlier : ℕ) (other : NamedStanding) (place : Place) → earlier < position → slice_get (named_standings tree) earlier ≡ Some other
      → HasNodeNamed raw other node.name place → ⊥
  pub point : record { x = node.x; y = node.y } ≡ image standing.placed least.square
  pub kind : node.kind ≡ (rules_of raw).word (standing.own.layout least)

-- This is the record of the flat node that contains the place: its full names in name order, its point and kind, its measures in each class,
-- and its capacitance.
pub record IsFlatNodeRecord (raw : RawTech) (tree : NamedTree) (place : Place) (node : NodeRec) : Type 0 where
  pub material : IsMaterial (flat_layout raw tree) place
  pub in_order : AreInNameOrder (names_of node)
  pub names : (name : List ℕ) → In name (names_of node) ↔ IsFlatName raw tree place name
  pub point : IsPointOf raw tree node
  pub measures : AreMeasures (rules_of raw).classes (flat_layout raw tree) (AreOneFlatNode raw tree place) node.measures
  pub cap : node.cap ≡ capacitance (rules_of raw).classes node.measures

-- The flat node that contains the place has a record among these.
pub record HasNodeRecord (raw : RawTech) (tree : NamedTree) (nodes : List NodeRec) (place : Place) : Type 0 where
  pub node : NodeRec
  pub listed : In node nodes
  pub is : IsFlatNodeRecord raw tree place node

-- a transistor of the flat layout in the top's coordinates, with its owner, by the position among the instances, and its least place in the
-- owner's coordinates
pub record OwnedFet : Type 0 where
  pub owner : ℕ
  pub least : Place
  pub fet : Transistor (List ℕ)

-- The owner is the instance whose own type at all its places is the channel's. Nodes are given by their preferred names.
pub record IsOwnedFet (raw : RawTech) (tree : NamedTree) (owned : OwnedFet) : Type 0 where
  pub transistor : IsTransistor raw (flat_layout raw tree) (IsOfFlatNode raw tree) owned.fet
  pub standing : NamedStanding
  pub there : slice_get (named_standings tree) owned.owner ≡ Some standing
  pub owns : (place : Place) → AreOneChannel (flat_layout raw tree) owned.fet.least place
      → standing.own.layout (place_back standing.placed place) ≡ owned.fet.kind
  pub is_least : IsLeast IsNoLater (λ place. AreOneChannel (flat_layout raw tree) owned.fet.least (place_forth standing.placed place)) owned.least

-- The record has what the technology says of transistors with that channel, the least place taken to the top as its point, its area and
-- perimeter, its gate with what is written for it, and its terminals in the name order of their nodes.
pub record IsFlatFetRecord (raw : RawTech) (tree : NamedTree) (owned : OwnedFet) (made : FetRec) : Type 0 where
  pub rule : FetRule
  pub listed : In rule raw.fets
  pub channel : rule.kind.0 ≡ owned.fet.kind
  pub kind : made.kind ≡ rule.name
  pub substrate : made.substrate ≡ rule.substrate
  pub standing : NamedStanding
  pub there : slice_get (named_standings tree) owned.owner ≡ Some standing
  pub point : record { x = made.x; y = made.y } ≡ image standing.placed owned.least.square
  pub area : made.area ≡ owned.fet.area
  pub perimeter : made.perimeter ≡ owned.fet.perimeter
  pub gate : made.gate ≡ record { node = owned.fet.gate; length = gate_length owned.fet }
  pub terminals : made.terminals ≡ map (λ terminal. record { node = terminal.0; length = terminal.1 }) owned.fet.terminals
  pub in_order : AreInNameOrder (terminal_names made)

-- The first stands before the second: by owners, and then by least places in the owner's coordinates.
abbrev pub IsFetBefore : OwnedFet → OwnedFet → Type 0
IsFetBefore a b = (a.owner < b.owner) ⊎ ((a.owner ≡ b.owner) × IsBefore a.least b.least)

-- The place is of one of these transistors.
pub record IsInFet (raw : RawTech) (tree : NamedTree) (found : List OwnedFet) (place : Place) : Type 0 where
  pub owned : OwnedFet
  pub listed : In owned found
  pub within : AreOneChannel (flat_layout raw tree) owned.fet.least place

-- These are the records of the transistors of the flat layout: by their owners, and then by their least places in the owner's coordinates.
pub record AreFlatFetRecords (raw : RawTech) (tree : NamedTree) (fets : List FetRec) : Type 0 where
  pub found : List OwnedFet
  pub sound : (owned : OwnedFet) → In owned found → IsOwnedFet raw tree owned
  pub whole : (place : Place) → IsTrue (is_channel raw (flat_layout raw tree place)) → IsInFet raw tree found place
  pub in_order : AllPairs IsFetBefore found
  pub one_each : length fets ≡ length found
  pub each : (k : ℕ) (owned : OwnedFet) (made : FetRec) → k < length found
      → IsFlatFetRecord raw tree (slice_index_or found k owned) (slice_index_or fets k made)

-- This is the circuit of the flat layout of the cell: the layout's nodes in the name order of their preferred names, and its transistors by their
-- owners.
pub record IsFlatCircuit (raw : RawTech) (tree : NamedTree) (circuit : Circuit) : Type 0 where
  pub tech : circuit.tech ≡ raw.name
  pub classes : circuit.classes ≡ class_values raw
  pub sound : (node : NodeRec) → In node circuit.nodes → (place : Place) × IsFlatNodeRecord raw tree place node
  pub whole : (place : Place) → IsMaterial (flat_layout raw tree) place → HasNodeRecord raw tree circuit.nodes place
  pub in_order : AreInNameOrder (map (λ node. node.name) circuit.nodes)
  pub fets : AreFlatFetRecords raw tree circuit.fets
