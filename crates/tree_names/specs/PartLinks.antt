-- Links of the parts of a cell, as links of a layout of the cell.
use Rattle.hierarchy_model.specs.TechModel.declared.raw.RawTech.{RawTech}
use Rattle.hierarchy_model.specs.TechModel.Types.{connects}
use Rattle.own_record_laws.specs.LayoutModel.Layouts.{Layout}
use Rattle.own_record_laws.specs.LayoutModel.Links.{AreLinked}
use Rattle.own_record_laws.specs.LayoutModel.Places.{Place}
use Rattle.own_record_laws.specs.TreeRecords.FlatLayouts.{flat_layout}
use Rattle.own_record_laws.specs.TreeRecords.NamedTrees.{NamedTree, NamedElements, named_elements_in, own_body, place_forth}
use Rattle.own_record_laws.specs.TreeRecords.NamedTrees.NamedElements.{no_more, element_then}

-- The links of the flat layout of each element are links of this layout, where the element's transform takes them.
abbrev pub LinksGoUp : RawTech → NamedElements → Layout → Type 0
LinksGoUp raw no_more flat = Unit {0}
LinksGoUp raw (element_then id placed tree rest) flat =
    ((a b : Place) → AreLinked (connects raw) (flat_layout raw tree) a b
    → AreLinked (connects raw) flat (place_forth placed a) (place_forth placed b))
    × LinksGoUp raw rest flat

-- The links of each part are links of the flat layout.
pub record PartsKeepLinks (raw : RawTech) (tree : NamedTree) : Type 0 where
  pub own : (a b : Place) → AreLinked (connects raw) (own_body tree).layout a b → AreLinked (connects raw) (flat_layout raw tree) a b
  pub elements : LinksGoUp raw (named_elements_in tree) (flat_layout raw tree)
