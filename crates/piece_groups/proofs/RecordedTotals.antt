-- The members of a cell whose own nodes and elements have records have totals.
use Rattle.piece_groups.proofs.Common.{◌≡◌, ℕ, ℤ, List, [], ◌∷◌, inl, inr, refl, sym, ap, subst, ◌∙◌, cases_eq, In, RawTech, KeepsRules}
use Rattle.piece_groups.proofs.Common.{IsWellFormed, IsMaterial, Place, NamedTree, named_tree, flat_layout, IsGroupName, IsMemberAt, PlaceWeight}
use Rattle.piece_groups.proofs.Common.{named_is_material, HasRecordsBelow}
use Rattle.finite_sets.specs.Total.{sum_on, Total}
use Rattle.finite_sets.proofs.Totals.{Total-from_list}
use Rattle.group_meetings.specs.LayoutModel.CellTrees.{place_back}
use Rattle.group_meetings.specs.LayoutModel.FlatSets.{IsTyped, AreTyped}
use Rattle.piece_groups.specs.HierarchyModel.CleanCells.{IsClean, AreClean}
use Rattle.ext_model.specs.declared.records.CellExt.{CellExt}
use Rattle.ext_model.specs.declared.records.NodeRec.{NodeRec}
use Rattle.group_meetings.specs.CellNodes.NodeRecords.{AreNodeRecords}
use Rattle.group_meetings.specs.TreeRecords.FetRecords.{IsOfNode}
use Rattle.group_meetings.proofs.OwnRecordLaws.PreferredNames.{one_name}
use Rattle.piece_groups.specs.TreeRecords.NamedTrees.{NamedElements, OwnBody, layouts_of, layouts_below}
use Rattle.piece_groups.specs.TreeRecords.NamedTrees.NamedElements.{no_more, element_then}
use Rattle.piece_groups.specs.TreeRecords.MemberGroups.{IsMemberBelow}
use Rattle.piece_groups.specs.TreeRecords.Merges.{group_name}
use Rattle.piece_groups.specs.TreeRecords.PlaceWeights.{IsGroupTotal, IsTotalBelow, IsMemberTotal, AreMemberTotals}
use Rattle.piece_groups.specs.TreeRecords.TreeRecords.{HasTreeRecord, HaveTreeRecords}
use Rattle.group_meetings.proofs.TreeNames.GroupNames.{one_group_name}
use Rattle.group_meetings.proofs.TreeNames.RecordedNodes.{record_at}
use Rattle.group_meetings.proofs.TreeNames.TreeElements.{top_record}
use Rattle.group_meetings.proofs.PlacesOnce.{place_told}
use Rattle.piece_groups.proofs.ListedThings.{name_told, IsDecided, listed_with}
use Rattle.piece_groups.proofs.OwnPlaces.{places_in, material_in_area}

module _ (raw : RawTech) (own : OwnBody) (nodes : List NodeRec) (are : AreNodeRecords raw own.layout own.labels nodes) where
  -- it is decided whether a place is of the node of a name
  of_node_or_not : (name : List ℕ) → IsDecided (IsOfNode raw own.layout own.labels name)
  of_node_or_not name place = elim (cases_eq (own.layout place) 0) [
    | inl space ↦ inr (λ is. is.material space)
    | inr material ↦
        let at = record_at raw own nodes are place material in
        elim (name_told at.node.name name) [
          | inl same ↦ inl (subst (λ (n : List ℕ). IsOfNode raw own.layout own.labels n place) same at.preferred)
          | inr differ ↦ inr (λ is. differ (one_name raw own.layout own.labels at.node.name name place at.preferred is))
        ]
  ]

  -- where finitely many places have material, what the places of a node weigh can be summed up
  own_total : (places : List Place) → ((place : Place) → IsMaterial own.layout place → In place places) → (name : List ℕ) (weight : Place → ℤ)
      → (total : ℤ) × Total (IsOfNode raw own.layout own.labels name) weight total
  own_total places all name weight =
      let Of : Place → Type 0 = IsOfNode raw own.layout own.labels name in
      let listed = listed_with place_told Of (of_node_or_not name) places (λ place is. all place is.material) in
      (sum_on weight listed.0, Total-from_list Of weight listed.0 listed.1)

module _ (raw : RawTech) (formed : IsWellFormed raw) (rules : KeepsRules raw) (quantity : PlaceWeight) where
  module _ (exts : List CellExt) where
    -- a group of a cell with a record has a total
    group_total : (tree : NamedTree) → IsTyped raw (layouts_of tree) → IsClean raw (layouts_of tree) → HasTreeRecord raw exts tree
        → (place : Place) (name : List ℕ) → IsGroupName raw tree place name → (total : ℤ) × IsGroupTotal raw quantity tree name total
    group_total tree typed clean has place name named =
        let found = has.is.merges.whole place (named_is_material raw formed rules tree typed clean place name named) in
        let of = found.is in
        let first : group_name found.group ≡ of.name =
        ap (λ (members : List (List ℕ)). group_name (record { members = members; adjustment = found.group.adjustment })) of.members_are in
        let same : of.name ≡ name = sym first ∙ one_group_name raw tree place (group_name found.group) name found.named named in
        let flat = quantity (flat_layout raw tree) in
        let listed = of.cap.is_whole in
        let total = sum_on flat listed.0 in (
          total,
          subst (λ (n : List ℕ). IsGroupTotal raw quantity tree n total) same
              (Total-from_list (λ p. IsGroupName raw tree p of.name) flat listed.0 listed.1.0),
        )

    -- and so has a member below
    total_below : (elements : NamedElements) → AreTyped raw (layouts_below elements) → AreClean raw (layouts_below elements)
        → HaveTreeRecords raw exts elements → (place : Place) (member : List ℕ) → IsMemberBelow raw elements place member
        → (total : ℤ) × IsTotalBelow raw quantity elements member total
    total_below no_more typed clean have place member none = absurd none
    total_below (element_then id placed tree rest) typed clean have place member (inl here) =
        let back = place_back placed place in
        let found = group_total tree typed.0 clean.0 (top_record raw exts tree have.0) back here.0 here.1 in
        (found.0, inl (here.0, back, here.1, here.2, found.1))
    total_below (element_then id placed tree rest) typed clean have place member (inr below) =
        let found = total_below rest typed.1 clean.1 have.1 place member below in (found.0, inr found.1)

  -- a member that has a place has a total
  pub member_total : (tree : NamedTree) → IsTyped raw (layouts_of tree) → IsClean raw (layouts_of tree) → HasRecordsBelow raw tree
      → (place : Place) (member : List ℕ) → IsMemberAt raw tree place member → (total : ℤ) × IsMemberTotal raw quantity tree member total
  member_total (named_tree own elements) typed clean below place member (inl own_node) =
      let all = material_in_area raw formed own.layout typed.0 below.area below.inside in
      let found = own_total raw own below.nodes below.own (places_in raw below.area) all member (quantity own.layout) in
      (found.0, inl (record { place = place; of_node = own_node; sum = found.1 }))
  member_total (named_tree own elements) typed clean below place member (inr under) =
      let found = total_below below.exts elements typed.1 clean.0 below.elements place member under in (found.0, inr found.1)

  module _ (tree : NamedTree) (typed : IsTyped raw (layouts_of tree)) (clean : IsClean raw (layouts_of tree)) (below : HasRecordsBelow raw tree) where
    -- members that have places have totals
    pub member_totals : (members : List (List ℕ)) → ((member : List ℕ) → In member members → (place : Place) × IsMemberAt raw tree place member)
        → (totals : List ℤ) × AreMemberTotals raw quantity tree members totals
    member_totals [] placed = ([], tt)
    member_totals (member ∷ members) placed =
        let at = placed member (inl refl) in
        let first = member_total tree typed clean below at.0 member at.1 in
        let rest = member_totals members (λ other listed. placed other (inr listed)) in
        (first.0 ∷ rest.0, (first.1, rest.1))
