-- A group has finitely many places, and what they count beyond the restricted parts is what it adds to its members.
use Rattle.group_meetings.proofs.Common.{ℕ, ℤ, ◌-ℤ◌, Bool, List, map, refl, subst, ◌∙◌, IsTrue, Distinct, Lists, sum_on, Total, Square, RawTech}
use Rattle.group_meetings.proofs.Common.{KeepsRules, IsWellFormed, Place, IsGroupName, PlaceWeight, AreMemberTotals, IsAdjustment, IsCleanTree}
use Rattle.group_meetings.proofs.Common.{IsCountedWithin, tree_parts, PartsHaveMembers, AreMembersOf}
use Rattle.finite_sets.proofs.Members.{In-map, In-map_source}
use Rattle.finite_sets.proofs.Totals.{Total-from_list, Total-unique}
use Rattle.group_meetings.specs.Offences.Offences.{SetLayout}
use Rattle.group_meetings.specs.TreeRecords.NamedTrees.{NamedTree}
use Rattle.group_meetings.specs.TreeRecords.FlatLayouts.{flat_layout}
use Rattle.group_meetings.specs.MeetingLaws.PartLayouts.{excess}
use Rattle.group_meetings.proofs.MeetingLaws.LinkLaws.{someone_stands}
use Rattle.group_meetings.proofs.PartMembers.{flat_is_of_parts}
use Rattle.group_meetings.proofs.MemberMaterial.{named_is_material}
use Rattle.group_meetings.proofs.LocalQuantities.{IsLocal}
use Rattle.group_meetings.proofs.GroupSums.{PartPlace, members_stand, adjustment_within}
use Rattle.group_meetings.proofs.PlacesOnce.{once_each, place_told}

module _ (raw : RawTech) (formed : IsWellFormed raw) (rules : KeepsRules raw) (tree : NamedTree) (is : IsCleanTree raw tree)
    (quantity : PlaceWeight) (local : IsLocal quantity) (have : PartsHaveMembers raw tree) (place : Place) (name : List ℕ) (members : List (List ℕ))
    (group : AreMembersOf raw tree place name members) (totals : List ℤ) (distinct : Distinct members)
    (are : AreMemberTotals raw quantity tree members totals) where
  -- the places of a group can be listed
  pub group_places : (places : List Place) × Lists (λ p. IsGroupName raw tree p name) places
  group_places =
      let standing = members_stand raw formed rules tree is quantity local have place name members group totals distinct are in
      let place_of : PartPlace → Place = λ at. at.1 in
      let found = once_each place_told (map place_of standing.0) in (
        found.0,
        (
          found.1.once,
          (λ p named.
              let material = named_is_material raw formed rules tree is.typed is.clean p name named in
              let someone = someone_stands raw (tree_parts raw tree) p (λ space. material (flat_is_of_parts raw tree p ∙ space)) in
              found.1.there p (In-map place_of (someone.0, p) standing.0 (standing.1.0.1 (someone.0, p) (named, someone.1)))),
          (λ p listed.
              let source = In-map_source place_of p standing.0 (found.1.back p listed) in
              subst (λ (q : Place). IsGroupName raw tree q name) source.1.1 (standing.1.0.2 source.0 source.1.0).0),
        ),
      )

  -- what the places of a group count beyond the restricted parts is what the group adds
  pub found_adjustment : (within : Square → Bool) (others : List SetLayout)
      → IsCountedWithin raw quantity (λ square. IsTrue (within square)) (tree_parts raw tree) others → (adjustment : ℤ)
      → Total (λ p. IsGroupName raw tree p name × IsTrue (within p.square)) (excess raw quantity others) adjustment
      → IsAdjustment raw quantity tree name members adjustment
  found_adjustment within others counted_within adjustment found =
      let flat = quantity (flat_layout raw tree) in
      let whole = sum_on flat group_places.0 in
      let sums = sum_on (λ total. total) totals in
      let is_whole : Total (λ p. IsGroupName raw tree p name) flat whole =
      Total-from_list (λ p. IsGroupName raw tree p name) flat group_places.0 group_places.1 in
      let adds : IsAdjustment raw quantity tree name members (whole -ℤ sums) =
      record { whole = whole; is_whole = is_whole; parts = totals; are_parts = are; is = refl } in
      record {
        whole = whole;
        is_whole = is_whole;
        parts = totals;
        are_parts = are;
        is = Total-unique (λ p. IsGroupName raw tree p name × IsTrue (within p.square)) (excess raw quantity others) adjustment (whole -ℤ sums) found
            (adjustment_within raw formed rules tree is quantity local have place name members group within others counted_within distinct
            (whole -ℤ sums) adds);
      }
