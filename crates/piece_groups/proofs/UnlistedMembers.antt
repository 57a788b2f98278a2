-- A member that is not listed is a group alone, which adds nothing.
use Rattle.piece_groups.proofs.Common.{◌≡◌, ℕ, Bool, true, List, [], ◌∷◌, map, inl, inr, refl, sym, subst, ◌∙◌, In, In-slice_get, Square, RawTech}
use Rattle.piece_groups.proofs.Common.{KeepsRules, IsWellFormed, RegionTile, Place, Class, rules_of, PlaneStack, SetLayout, NamedTree, IsGroupName}
use Rattle.piece_groups.proofs.Common.{IsMemberAt, IsMemberOf, MemberGroup, area_weight, capacitance_weight, perimeter_weight, one_group, excess}
use Rattle.piece_groups.proofs.Common.{tree_parts, named_is_material, flat_is_of_parts, member_at_part, AreMembersOf, AreMeetingMeasures}
use Rattle.piece_groups.proofs.Common.{AreMarkedPieces, HasRecordsBelow}
use Rattle.std.proofs.Common.{pos}
use Rattle.finite_sets.proofs.Totals.{Total-none}
use Rattle.piece_groups.specs.TreeRecords.Merges.{IsMemberGroup, is_zero_adjustment, zero_adjustment}
use Rattle.piece_groups.proofs.MeetingLaws.LinkLaws.{someone_stands}
use Rattle.group_meetings.proofs.GroupRegions.{larger_groups_within}
use Rattle.piece_groups.proofs.ListedThings.{name_told}
use Rattle.piece_groups.proofs.PiecePlaces.{member_is_listed}
use Rattle.piece_groups.proofs.MarkedMembers.{group_stays, name_of_members}
use Rattle.piece_groups.proofs.GroupAdjustments.{IsWithin, space_in_none, cap_adjusts, measures_adjust}

-- nothing is counted in each class where there is no place
count_nothing : (raw : RawTech) (parts : List SetLayout) (classes : List Class) (Of : Place → Type 0) → ((place : Place) → Of place → ⊥)
    → AreMeetingMeasures raw parts classes Of (map (λ class. (pos 0, pos 0)) classes)
count_nothing raw parts [] Of none = tt
count_nothing raw parts (class ∷ classes) Of none = (
  Total-none Of (excess raw (area_weight class) parts) none,
  Total-none Of (excess raw (perimeter_weight class) parts) none,
  count_nothing raw parts classes Of none,
)

-- the zero adjustment is zero
pub zero_is_zero : (classes : List Class) → is_zero_adjustment (zero_adjustment classes) ≡ true
zero_is_zero [] = refl
zero_is_zero (class ∷ classes) = zero_is_zero classes

module _ (raw : RawTech) (formed : IsWellFormed raw) (rules : KeepsRules raw) (within : Square → Bool) (tree : NamedTree) (others : List SetLayout)
    (stacks : List PlaneStack) (names : List (List ℕ)) (pairs : List (ℕ × ℕ)) (tiles : List RegionTile) (count : ℕ) (marks : List ℕ)
    (pieces : AreMarkedPieces raw within tree others stacks names pairs tiles count marks) (place : Place) (member : List ℕ)
    (has : IsMemberAt raw tree place member) (unlisted : In member names → ⊥) where
  -- the member alone
  abbrev pub alone : MemberGroup
  alone = record { members = member ∷ []; adjustment = zero_adjustment (rules_of raw).classes }

  -- the member is of its group
  is_of_its_group : IsMemberOf raw tree place member
  is_of_its_group = (place, group_stays raw tree place, has)

  -- and no other is
  only_one : (other : List ℕ) → IsMemberOf raw tree place other → member ≡ other
  only_one other is = elim (name_told member other) [
    | inl same ↦ same
    | inr differ ↦
        let at = larger_groups_within raw formed rules within tree others pieces.restricted place member other is_of_its_group is differ in
        let listed =
        member_is_listed raw formed rules within tree others stacks names pairs tiles count marks pieces at.other member at.has at.inside in
        absurd (unlisted (In-slice_get names listed.0 member listed.1))
  ]

  -- the group goes by its name
  are_members : AreMembersOf raw tree place member (member ∷ [])
  are_members = record {
    named = name_of_members raw tree place member (is_of_its_group, (λ other is. inl (only_one other is)));
    in_order = tt;
    are = λ other. (
      (λ listed. elim listed [ inl same ↦ subst (IsMemberOf raw tree place) same is_of_its_group | inr none ↦ absurd none ]),
      (λ is. inl (only_one other is)),
    );
  }

  -- no place of the group is one at which parts meet
  none_within : (other : Place) → IsWithin raw within tree member other → ⊥
  none_within other is =
      let clean = pieces.clean in
      let material = named_is_material raw formed rules tree clean.typed clean.clean other member is.0 in
      let someone = someone_stands raw (tree_parts raw tree) other (λ space. material (flat_is_of_parts raw tree other ∙ space)) in
      let found = pieces.members someone.0 other someone.1 in
      let at = member_at_part raw tree someone.0 other found.0 found.1 in
      let together = one_group raw formed tree clean place other member are_members.named is.0 in
      let same : found.0 ≡ member = sym (only_one found.0 (other, together, at)) in
      let listed =
      member_is_listed raw formed rules within tree others stacks names pairs tiles count marks pieces other found.0 at is.1 in
      unlisted (subst (λ (name : List ℕ). In name names) same (In-slice_get names listed.0 found.0 listed.1))

  -- so the member alone is a group, and adds nothing
  pub alone_is_group : HasRecordsBelow raw tree → IsMemberGroup raw tree alone
  alone_is_group below =
      let classes = (rules_of raw).classes in
      let Within : Place → Type 0 = IsWithin raw within tree member in
      record {
        place = place;
        name = member;
        named = are_members.named;
        others = [];
        members_are = refl;
        in_order = tt;
        members = are_members.are;
        cap = cap_adjusts raw formed rules within tree others pieces.clean pieces.members pieces.restricted below place member (member ∷ []) are_members
            (pos 0) (Total-none Within (excess raw (capacitance_weight classes) others) none_within);
        measures = measures_adjust raw formed rules within tree others pieces.clean pieces.members pieces.restricted below place member (member ∷ [])
            are_members classes (space_in_none raw formed) (map (λ class. (pos 0, pos 0)) classes) (count_nothing raw others classes Within none_within);
      }

  -- it is the group of the place
  pub alone_is_named : IsGroupName raw tree place member
  alone_is_named = are_members.named
