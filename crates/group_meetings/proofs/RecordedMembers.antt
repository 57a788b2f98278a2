-- Where the nodes of the own layout and the cells of the elements have records, each part has members.
use Rattle.group_meetings.proofs.Common.{◌≡◌, ◌≢◌, ℕ, zero, suc, List, ◌∷◌, inl, inr, refl, sym, ap, ◌∙◌, Some, RawTech, IsWellFormed, IsMaterial}
use Rattle.group_meetings.proofs.Common.{Place, place_back, sets_in, flat_sets, SetLayout, IsClean, AreClean, PartStands, NamedTree, NamedElements}
use Rattle.group_meetings.proofs.Common.{OwnBody, layouts_of, layouts_below, named_tree, no_more, element_then, flat_layout, IsMemberOfElement}
use Rattle.group_meetings.proofs.Common.{PartsHaveMembers}
use Rattle.tech_model.specs.Types.{joined, parts_of}
use Rattle.tech_model.proofs.JoinedLaws.{joined-found}
use Rattle.tree_names.specs.LayoutModel.LayerTypes.{or_space}
use Rattle.tree_names.specs.ExtModel.declared.records.CellExt.{CellExt}
use Rattle.tree_names.specs.ExtModel.declared.records.NodeRec.{NodeRec}
use Rattle.tree_names.specs.CellNodes.NodeRecords.{AreNodeRecords}
use Rattle.meeting_laws.specs.Offences.Offences.{joined_at}
use Rattle.meeting_laws.proofs.HierarchyModel.CleanLaws.{has_flat_type}
use Rattle.meeting_laws.proofs.HierarchyModel.KindLaws.{defined_or_not}
use Rattle.meeting_laws.proofs.HierarchyModel.PartSearch.{earlier, one_part}
use Rattle.meeting_laws.specs.TreeRecords.TreeRecords.{HaveTreeRecords}
use Rattle.tree_names.proofs.GroupMerges.{has_group}
use Rattle.tree_names.proofs.RecordedNodes.{record_at}
use Rattle.tree_names.proofs.TreeElements.{top_record}
use Rattle.group_meetings.specs.Laws.{RecordedPartsHaveMembers}
use Rattle.group_meetings.proofs.PartMembers.{element_part, parts_below}

-- a set that is not empty is that of no space
full_is_material : (raw : RawTech) (plane set kind : ℕ) → joined raw plane set ≡ Some kind → set ≢ 0 → kind ≢ 0
full_is_material raw plane set kind is full space = full (sym (joined-found raw plane set kind is).0 ∙ ap (parts_of raw) space)

-- where a part of a clean cell stands its flat layout has material
flat_where_stands : (raw : RawTech) (tree : NamedTree) → IsClean raw (layouts_of tree) → (place : Place) → flat_sets raw (layouts_of tree) place ≢ 0
    → IsMaterial (flat_layout raw tree) place
flat_where_stands raw tree clean place full space = elim (defined_or_not (joined_at raw (flat_sets raw (layouts_of tree)) place)) [
  | inl found ↦
      full_is_material raw place.plane (flat_sets raw (layouts_of tree) place) found.0 found.1 full (sym (ap or_space found.1) ∙ space)
  | inr none ↦ has_flat_type raw (layouts_of tree) clean place none
]

module _ (raw : RawTech) (formed : IsWellFormed raw) (exts : List CellExt) where
  elements_have : (elements : NamedElements) → AreClean raw (layouts_below elements) → HaveTreeRecords raw exts elements
      → (position : ℕ) (place : Place) → PartStands (parts_below raw elements) position place
      → (member : List ℕ) × IsMemberOfElement raw elements position place member
  elements_have no_more clean have position place stands = let there = stands.there in cc
  elements_have (element_then id placed tree rest) clean have zero place stands =
      let first = element_part raw placed tree in
      let same : stands.part ≡ first = one_part (first ∷ parts_below raw rest) zero stands.part first stands.there refl in
      let full : first place ≢ 0 = λ empty. stands.material (ap (λ (part : SetLayout). part place) same ∙ empty) in
      let group = has_group raw formed exts tree (top_record raw exts tree have.0) (place_back placed place)
      (flat_where_stands raw tree clean.0 (place_back placed place) full) in
      (_, (group.0, group.1, refl))
  elements_have (element_then id placed tree rest) clean have (suc position) place stands =
      elements_have rest clean.1 have.1 position place (earlier (element_part raw placed tree) (parts_below raw rest) position place stands)

  -- each part of a cell whose nodes and elements have records has members
  pub parts_have : (own : OwnBody) (elements : NamedElements) (nodes : List NodeRec) → IsClean raw (layouts_of (named_tree own elements))
      → AreNodeRecords raw own.layout own.labels nodes → HaveTreeRecords raw exts elements → PartsHaveMembers raw (named_tree own elements)
  parts_have own elements nodes clean are have zero place stands =
      let first = sets_in raw own.layout in
      let same : stands.part ≡ first = one_part (first ∷ parts_below raw elements) zero stands.part first stands.there refl in
      let at = record_at raw own nodes are place
      (λ space. stands.material (ap (λ (part : SetLayout). part place) same ∙ ap (parts_of raw) space)) in
      (at.node.name, at.preferred)
  parts_have own elements nodes clean are have (suc position) place stands =
      elements_have elements clean.0 have position place (earlier (sets_in raw own.layout) (parts_below raw elements) position place stands)

-- the law, of any cell
pub recorded_have : (raw : RawTech) → RecordedPartsHaveMembers raw
recorded_have raw formed exts (named_tree own elements) nodes clean are have = parts_have raw formed exts own elements nodes clean are have
