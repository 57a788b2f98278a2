-- The nodes of a flat layout, and their names.
use Rattle.std.specs.Prelude.{◌≡◌, ◌⊎◌, ℕ, IsTrue, List, [], ◌∷◌}
use Rattle.offences.specs.FiniteSets.Chain.{Chain}
use Rattle.offences.specs.FiniteSets.Least.{IsLeast}
use Rattle.offences.specs.TechModel.declared.raw.RawTech.{RawTech}
use Rattle.offences.specs.TechModel.Types.{connects}
use Rattle.offences.specs.LayoutModel.LayerTypes.{or_space}
use Rattle.offences.specs.LayoutModel.Layouts.{Layout, IsMaterial}
use Rattle.offences.specs.LayoutModel.Links.{AreLinked}
use Rattle.offences.specs.LayoutModel.Places.{Place, IsNoLater}
use Rattle.offences.specs.LayoutModel.CellTrees.{place_back}
use Rattle.offences.specs.LayoutModel.FlatSets.{flat_sets}
use Rattle.offences.specs.Offences.{joined_at}
use Rattle.tree_records.specs.ExtModel.NodeNames.{is_global}
use Rattle.tree_records.specs.ExtModel.Paths.{full_name, path_text}
use Rattle.tree_records.specs.Names.Attachments.{HasText}
use Rattle.tree_records.specs.Names.NamedNodes.{AreOneNamedNode, IsNameOf}
use Rattle.tree_records.specs.FetRecords.{IsNoLaterName}
use Rattle.tree_records.specs.NamedTrees.{NamedTree, NamedElements, OwnBody, layouts_of}
use Rattle.tree_records.specs.NamedTrees.NamedTree.{named_tree}
use Rattle.tree_records.specs.NamedTrees.NamedElements.{no_more, element_then}

-- The flat layout of a cell: at each place the type that all own types there at and below it make together, and space where they make none. A
-- clean cell has no such place.
abbrev pub flat_layout : RawTech → NamedTree → Layout
flat_layout raw tree place = or_space (joined_at raw (flat_sets raw (layouts_of tree)) place)

-- A label of the cell or of an instance below it gives the text to the place. It is asked of global texts alone.
abbrev mutual
  pub HasTextSomewhere : RawTech → NamedTree → List ℕ → Place → Type 0
  HasTextSomewhere raw (named_tree own elements) text place =
      HasText raw own.layout own.labels text place ⊎ HasTextBelow raw elements text place

  pub HasTextBelow : RawTech → NamedElements → List ℕ → Place → Type 0
  HasTextBelow raw no_more text place = ⊥
  HasTextBelow raw (element_then id placed tree rest) text place =
      HasTextSomewhere raw tree text (place_back placed place) ⊎ HasTextBelow raw rest text place

-- Labels of one global name, of the cell or of instances below it, attach to both places.
pub record ShareFlatGlobal (raw : RawTech) (tree : NamedTree) (a b : Place) : Type 0 where
  pub text : List ℕ
  pub global : IsTrue (is_global text)
  pub here : HasTextSomewhere raw tree text a
  pub there : HasTextSomewhere raw tree text b

-- Two places are linked in the flat layout, or by a global name.
abbrev pub AreFlatLinked : RawTech → NamedTree → Place → Place → Type 0
AreFlatLinked raw tree a b = AreLinked (connects raw) (flat_layout raw tree) a b ⊎ ShareFlatGlobal raw tree a b

-- Links of the flat layout and global names join the places to one node.
abbrev pub AreOneFlatNode : RawTech → NamedTree → Place → Place → Type 0
AreOneFlatNode raw tree = Chain (AreFlatLinked raw tree)

-- A node of the cell's own layout contains the place, and this is one of its names.
pub record HasOwnName (raw : RawTech) (own : OwnBody) (place : Place) (name : List ℕ) : Type 0 where
  pub material : IsMaterial own.layout place
  pub least : Place
  pub is_least : IsLeast IsNoLater (AreOneNamedNode raw own.layout own.labels place) least
  pub named : IsNameOf raw own.layout own.labels least name

-- The path names a node of the own layout of the cell or of an instance below it, and that node contains the place. A path is the names of the
-- elements that lead to the instance and the node's name there, a slash between any two.
abbrev mutual
  pub HasNodePath : RawTech → NamedTree → Place → List ℕ → Type 0
  HasNodePath raw (named_tree own elements) place path = HasOwnName raw own place path ⊎ HasNodePathBelow raw elements place path

  pub HasNodePathBelow : RawTech → NamedElements → Place → List ℕ → Type 0
  HasNodePathBelow raw no_more place path = ⊥
  HasNodePathBelow raw (element_then id placed tree rest) place path =
      ((inner : List ℕ) × HasNodePath raw tree (place_back placed place) inner × (path ≡ path_text (id ∷ []) inner)) ⊎ HasNodePathBelow raw rest place path

-- This is one of the full names of the flat node that contains the place: that of a node of the own layout of some instance which shares a place
-- with the flat node. A full name is the path, or for a global name the name alone.
pub record IsFlatName (raw : RawTech) (tree : NamedTree) (place : Place) (name : List ℕ) : Type 0 where
  pub other : Place
  pub together : AreOneFlatNode raw tree place other
  pub path : List ℕ
  pub has_path : HasNodePath raw tree other path
  pub full : name ≡ full_name [] path

-- The place has material, and this is the preferred name of its flat node, the first of its names in name order.
pub record IsOfFlatNode (raw : RawTech) (tree : NamedTree) (name : List ℕ) (place : Place) : Type 0 where
  pub material : IsMaterial (flat_layout raw tree) place
  pub first : IsLeast IsNoLaterName (IsFlatName raw tree place) name
