-- The groups of marked pieces are those of the cell's record.
use Rattle.piece_groups.proofs.Common.{◌≡◌, ℕ, Bool, List, length, inl, inr, refl, sym, subst, ◌∙◌, In, slice_get-In, Square, RawTech, KeepsRules}
use Rattle.piece_groups.proofs.Common.{IsWellFormed, RegionTile, IsMaterial, Place, rules_of, PlaneStack, SetLayout, NamedTree, flat_layout}
use Rattle.piece_groups.proofs.Common.{IsGroupName, IsMemberAt, AreAdjustments, MemberGroup, capacitance_weight, IsAdjustment, group_name_along}
use Rattle.piece_groups.proofs.Common.{tree_parts, flat_is_of_parts, member_at_part, MeetingSum, AreMarkedGroups, AreMarkedPieces, MarksTellGroups}
use Rattle.piece_groups.proofs.Common.{HasRecordsBelow, piece_marks}
use Rattle.piece_groups.specs.TreeRecords.Merges.{Adjustment, HasGroupIn, IsMemberGroup}
use Rattle.group_meetings.proofs.TreeNames.GroupNames.{group_name_is, members_together}
use Rattle.piece_groups.proofs.MeetingLaws.LinkLaws.{someone_stands}
use Rattle.piece_groups.specs.MeetingSums.Sums.{AreMeetingSums}
use Rattle.piece_groups.proofs.MarkedGroups.{marks_tell_groups}
use Rattle.piece_groups.specs.Laws.{MarkedGroupsAreRecorded}
use Rattle.piece_groups.proofs.ListedThings.{name_told, some_or_none}
use Rattle.piece_groups.proofs.MarkedMembers.{group_at}
use Rattle.piece_groups.proofs.GroupAdjustments.{space_in_none, cap_adjusts, measures_adjust}
use Rattle.piece_groups.proofs.MarkedAdjustments.{mark_counts}
use Rattle.piece_groups.proofs.UnlistedMembers.{alone, alone_is_group, alone_is_named, zero_is_zero}

module _ (raw : RawTech) (formed : IsWellFormed raw) (rules : KeepsRules raw) (within : Square → Bool) (tree : NamedTree) (others : List SetLayout)
    (stacks : List PlaneStack) (names : List (List ℕ)) (pairs : List (ℕ × ℕ)) (tiles : List RegionTile) (count : ℕ) (marks : List ℕ)
    (sums : List MeetingSum) (groups : List MemberGroup) (below : HasRecordsBelow raw tree)
    (pieces : AreMarkedPieces raw within tree others stacks names pairs tiles count marks)
    (summed : AreMeetingSums raw others stacks (piece_marks (length names) stacks tiles marks) (length sums) sums)
    (marked : AreMarkedGroups names marks sums groups) where
  tell : MarksTellGroups raw tree stacks names tiles marks
  tell = marks_tell_groups raw formed rules within tree others stacks names pairs tiles count marks pieces

  -- each group of a mark is one of the cell
  pub group_is : (group : MemberGroup) → In group groups → IsMemberGroup raw tree group
  group_is group listed =
      let mark = (marked.each group listed).0 in
      let of = (marked.each group listed).1 in
      let at = group_at raw formed rules within tree others stacks names pairs tiles count marks pieces tell sums mark group of in
      let counts =
      mark_counts raw formed rules within tree others stacks names pairs tiles count marks pieces tell mark group at of.sum
      (summed.each mark of.sum of.there) in
      let classes = (rules_of raw).classes in
      let Cap : Adjustment → Type 0 = λ one. IsAdjustment raw (capacitance_weight classes) tree at.name group.members one.cap in
      let Measures : Adjustment → Type 0 = λ one. AreAdjustments raw classes tree at.name group.members one.measures in
      record {
        place = at.place;
        name = at.name;
        named = at.are.named;
        others = at.others;
        members_are = at.members_are;
        in_order = at.are.in_order;
        members = at.are.are;
        cap = subst Cap (sym of.adjustment)
            (cap_adjusts raw formed rules within tree others pieces.clean pieces.members pieces.restricted below at.place at.name group.members at.are
            of.sum.cap counts.cap);
        measures = subst Measures (sym of.adjustment)
            (measures_adjust raw formed rules within tree others pieces.clean pieces.members pieces.restricted below at.place at.name group.members
            at.are classes (space_in_none raw formed) of.sum.measures counts.measures);
      }

  -- the group of a place at which a listed member stands is among them
  listed_group : (place : Place) (name : List ℕ) → IsMemberAt raw tree place name → In name names → HasGroupIn raw tree groups place
  listed_group place name has listed =
      let at = slice_get-In name names listed in
      let found = marked.whole at.0 name at.1 in
      let group = found.0 in
      let is = group_is group found.1 in
      let of = (is.members name).0 found.2 in
      let together = members_together raw formed tree pieces.clean of.0 place name of.2 has in
      let named = group_name_along raw tree of.0 place is.name together (group_name_along raw tree is.place of.0 is.name of.1 is.named) in
      record {
        group = group;
        is = is;
        named = subst (IsGroupName raw tree place) (sym (group_name_is raw tree group is)) named;
        listed = inl found.1;
      }

  -- and that of a place at which another stands adds nothing
  unlisted_group : (place : Place) (name : List ℕ) → IsMemberAt raw tree place name → (In name names → ⊥) → HasGroupIn raw tree groups place
  unlisted_group place name has unlisted = record {
    group = alone raw formed rules within tree others stacks names pairs tiles count marks pieces place name has unlisted;
    is = alone_is_group raw formed rules within tree others stacks names pairs tiles count marks pieces place name has unlisted below;
    named = alone_is_named raw formed rules within tree others stacks names pairs tiles count marks pieces place name has unlisted;
    listed = inr (refl, zero_is_zero (rules_of raw).classes);
  }

  -- each place with material has its group
  pub has_group_in : (place : Place) → IsMaterial (flat_layout raw tree) place → HasGroupIn raw tree groups place
  has_group_in place material =
      let someone = someone_stands raw (tree_parts raw tree) place (λ space. material (flat_is_of_parts raw tree place ∙ space)) in
      let found = pieces.members someone.0 place someone.1 in
      let name = found.0 in
      let has = member_at_part raw tree someone.0 place name found.1 in
      elim (some_or_none (λ (other : List ℕ). other ≡ name) (λ other. name_told other name) names) [
        | inl listed ↦ listed_group place name has (subst (λ (other : List ℕ). In other names) listed.2 listed.1)
        | inr none ↦ unlisted_group place name has (λ listed. none name listed refl)
      ]

-- the law, of any cell
pub marked_groups_recorded : (raw : RawTech) → MarkedGroupsAreRecorded raw
marked_groups_recorded raw formed rules within tree others stacks names pairs tiles count marks sums groups merges below pieces summed marked are =
    record {
      groups = groups;
      sound = group_is raw formed rules within tree others stacks names pairs tiles count marks sums groups below pieces summed marked;
      in_order = marked.in_order;
      whole = has_group_in raw formed rules within tree others stacks names pairs tiles count marks sums groups below pieces summed marked;
      are = are;
    }
