-- The record of a clean cell tells the name of the group of each member.
use Rattle.tile_members.proofs.Common.{◌≡◌, ◌⊎◌, ℕ, List, inl, inr, sym, subst, ◌∙◌, In, RawTech, KeepsRules, IsWellFormed, IsMaterial, Place}
use Rattle.tile_members.proofs.Common.{MergeRec, IsCleanTree, RecordsTellGroups, first_member}
use Rattle.finite_sets.proofs.Images.{In-flat_map, In-flat_map_source}
use Rattle.layout_model.specs.Technologies.{Class, rules_of}
use Rattle.group_meetings.specs.TreeRecords.NamedTrees.{NamedTree}
use Rattle.group_meetings.specs.TreeRecords.FlatLayouts.{flat_layout}
use Rattle.group_meetings.specs.TreeRecords.MemberGroups.{AreOneGroup, IsGroupName, IsMemberAt}
use Rattle.group_meetings.specs.TreeRecords.Merges.{MemberGroup, AreGroupMerges, HasGroupIn, IsMemberGroup, group_merges, group_name}
use Rattle.group_meetings.proofs.TreeNames.GroupMerges.{merge_members}
use Rattle.group_meetings.proofs.TreeNames.GroupNames.{group_name_is, group_then, group_name_along, members_together, one_group, one_group_name}
use Rattle.group_meetings.proofs.MemberMaterial.{flat_of_part, member_is_material}
use Rattle.group_meetings.proofs.PartMembers.{part_of_member}
use Rattle.tile_members.proofs.GroupFirsts.{IsSecondOf, group_with, begins_with_name, first_is, is_second}

-- the flat layout has material where a member has a place
member_has_material : (raw : RawTech) → IsWellFormed raw → KeepsRules raw → (tree : NamedTree) → IsCleanTree raw tree → (place : Place) (member : List ℕ)
    → IsMemberAt raw tree place member → IsMaterial (flat_layout raw tree) place
member_has_material raw formed rules tree is place member at =
    let part = part_of_member raw tree place member at in
    flat_of_part raw tree is.clean part.0 place (member_is_material raw formed rules tree is.typed is.clean part.0 place member part.1)

module _ (raw : RawTech) (formed : IsWellFormed raw) (tree : NamedTree) (is : IsCleanTree raw tree) (merges : List MergeRec)
    (are : AreGroupMerges raw tree merges) (place : Place) (member : List ℕ) (at : IsMemberAt raw tree place member) where
  abbrev classes : List Class
  classes = (rules_of raw).classes

  -- a group that has the member is named as the group of the place
  name_of_place : (group : MemberGroup) → IsMemberGroup raw tree group → In member group.members → IsGroupName raw tree place (group_name group)
  name_of_place group of listed =
      let has = (of.members member).0 listed in
      let together = group_then raw tree of.place has.0 place has.1 (members_together raw formed tree is has.0 place member has.2 at) in
      subst (IsGroupName raw tree place) (sym (group_name_is raw tree group of)) (group_name_along raw tree of.place place of.name together of.named)

  -- a merge that has the member as its second begins with the name of the group of the place
  first_of_merge : (name : List ℕ) → IsGroupName raw tree place name → (merge : MergeRec) → In merge merges → merge.second ≡ member → merge.first ≡ name
  first_of_merge name named merge listed second =
      let source = In-flat_map_source (group_merges classes) merge are.groups (subst (In merge) are.are listed) in
      let group = source.0 in
      let of = are.sound group source.1.0 in
      let both = merge_members classes group.adjustment group.members merge source.1.1 in
      let has : In member group.members = subst (λ (m : List ℕ). In m group.members) second both.second in
      begins_with_name classes group.adjustment group.members merge source.1.1
      ∙ one_group_name raw tree place (group_name group) name (name_of_place group of has) named

  -- a member that is not the first of its group is the second of a merge
  first_or_second : HasGroupIn raw tree are.groups place → (name : List ℕ) → IsGroupName raw tree place name
      → (member ≡ name) ⊎ IsSecondOf merges member
  first_or_second found name named =
      let group = found.group in
      let of = found.is in
      let first = group_name_is raw tree group of in
      let same : group_name group ≡ name = one_group_name raw tree place (group_name group) name found.named named in
      let at_place : IsGroupName raw tree place of.name = subst (IsGroupName raw tree place) first found.named in
      let together = one_group raw formed tree is of.place place of.name of.named at_place in
      let listed : In member group.members = (of.members member).1 (place, together, at) in
      elim (subst (In member) of.members_are listed) [
        | inl is_first ↦ inl (sym is_first ∙ sym first ∙ same)
        | inr other ↦ elim found.listed [
          | inl among ↦ inr (merged group among of other)
          | inr alone ↦ elim (subst (In member) alone.0 listed) [ inl only ↦ inl (sym only ∙ same) | inr none ↦ absurd none ]
        ]
      ]
    where
      merged : (group : MemberGroup) → In group are.groups → (of : IsMemberGroup raw tree group) → In member of.others → IsSecondOf merges member
      merged group among of other =
          let made = is_second classes group.adjustment of.name of.others member other in
          let P : List (List ℕ) → Type 0 = λ members. In made.merge (group_merges classes (group_with group.adjustment members)) in
          let in_group : In made.merge (group_merges classes group) = subst P (sym of.members_are) made.listed in
          let in_record = In-flat_map (group_merges classes) group made.merge are.groups among in_group in
          record { merge = made.merge; listed = subst (In made.merge) (sym are.are) in_record; second = made.second }

  -- the first member names the group of the place
  pub first_names : IsMaterial (flat_layout raw tree) place → IsGroupName raw tree place (first_member merges member)
  first_names material =
      let found = are.whole place material in
      let name = group_name found.group in
      subst (IsGroupName raw tree place)
      (sym (first_is merges member name (first_of_merge name found.named) (first_or_second found name found.named))) found.named

-- the law, of any technology
pub records_tell : (raw : RawTech) → RecordsTellGroups raw
records_tell raw formed rules tree ext is has place member at =
    first_names raw formed tree is ext.merges has.merges place member at (member_has_material raw formed rules tree is place member at)
