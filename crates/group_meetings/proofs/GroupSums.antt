-- What the members of a group have together is what the parts count at its places, and what the group adds is counted where parts meet.
use Rattle.group_meetings.proofs.Common.{◌≡◌, ◌≢◌, ◌+◌, ◌⊎◌, ℕ, ℤ, ◌+ℤ◌, ◌-ℤ◌, Bool, List, [], ◌∷◌, length, inl, inr, refl, sym, ap, subst, ◌∙◌}
use Rattle.group_meetings.proofs.Common.{arith, IsTrue, cases_eq, In, Distinct, Lists, sum_on, Total, Square, RawTech, KeepsRules, IsWellFormed}
use Rattle.group_meetings.proofs.Common.{Place, IsGroupName, PlaceWeight, AreMemberTotals, IsAdjustment, IsCleanTree, IsCountedWithin, tree_parts}
use Rattle.group_meetings.proofs.Common.{IsMemberOfPart, PartsHaveMembers, AreMembersOf}
use Rattle.std.proofs.Common.{◌<◌, ◌==◌, true, false}
use Rattle.std.proofs.Common.{eq-eqb, ne_eqb, true≢false}
use Rattle.std.specs.Prelude.{not}
use Rattle.std.specs.List.{range_with_len}
use Rattle.std.proofs.lemmas.Option.{slice_get_within, slice_get-get_or, get_or_from_slice_get}
use Rattle.finite_sets.specs.Range.{pairs_of}
use Rattle.finite_sets.proofs.Ranges.{Lists-pairs_of}
use Rattle.finite_sets.proofs.Sums.{sum_on-same, sum_on-swap}
use Rattle.finite_sets.proofs.Totals.{Total-at, Total-from_list, Total-iff, Total-none, Total-same, Total-sub, Total-support, Total-union, Total-unique}
use Rattle.tree_names.proofs.LayoutModel.Families.{InFamily}
use Rattle.tree_names.proofs.RectContacts.BothWays.{Lists-below, sum_on-nested}
use Rattle.group_meetings.specs.Offences.Offences.{SetLayout}
use Rattle.group_meetings.specs.HierarchyModel.Restrictions.{PartStands}
use Rattle.group_meetings.specs.TreeRecords.NamedTrees.{NamedTree}
use Rattle.group_meetings.specs.TreeRecords.FlatLayouts.{flat_layout}
use Rattle.group_meetings.proofs.TreeNames.GroupNames.{group_name_along, members_together, one_group}
use Rattle.group_meetings.proofs.TreeNames.GroupNodes.{group_back}
use Rattle.group_meetings.specs.MeetingLaws.PartLayouts.{part_layout, parts_layout, excess}
use Rattle.group_meetings.proofs.MeetingLaws.LinkLaws.{part_of_empty}
use Rattle.group_meetings.proofs.PartMembers.{flat_is_of_parts, member_at_part}
use Rattle.group_meetings.proofs.MemberMaterial.{member_is_material, part_stands}
use Rattle.group_meetings.proofs.MemberSteps.{one_of_part}
use Rattle.group_meetings.proofs.LocalQuantities.{IsLocal}
use Rattle.group_meetings.proofs.MemberTotals.{part_at, counted, member_by_pairs}
use Rattle.group_meetings.proofs.PartSums.{sum_of_positions}

-- a position of a part with a place
abbrev pub PartPlace : Type 0
PartPlace = ℕ × Place

-- The member stands at the place in the part.
abbrev pub StandsAt : RawTech → NamedTree → List ℕ → PartPlace → Type 0
StandsAt raw tree member at = IsMemberOfPart raw tree at.0 at.1 member

-- what the parts at a place count together
abbrev pub parts_count : RawTech → PlaceWeight → List SetLayout → Place → ℤ
parts_count raw quantity parts place = sum_on (λ part. quantity (part_layout raw part) place) parts

module _ (raw : RawTech) (formed : IsWellFormed raw) (rules : KeepsRules raw) (tree : NamedTree) (is : IsCleanTree raw tree)
    (quantity : PlaceWeight) (local : IsLocal quantity) where
  abbrev pub parts : List SetLayout
  parts = tree_parts raw tree

  abbrev pub weight : PartPlace → ℤ
  weight = counted raw quantity parts

  -- what members have together is counted at their places in their parts
  members_count : (members : List (List ℕ)) (totals : List ℤ) → Distinct members → AreMemberTotals raw quantity tree members totals
      → Total (InFamily (StandsAt raw tree) members) weight (sum_on (λ total. total) totals)
  members_count [] [] distinct are = Total-none (InFamily (StandsAt raw tree) []) weight (λ at among. among.among)
  members_count [] (total ∷ totals) distinct are = absurd are
  members_count (member ∷ members) [] distinct are = absurd are
  members_count (member ∷ members) (total ∷ totals) distinct are =
      let Set : List ℕ → PartPlace → Type 0 = StandsAt raw tree in
      Total-iff (λ at. Set member at ⊎ InFamily Set members at) (InFamily Set (member ∷ members)) weight (total +ℤ sum_on (λ t. t) totals)
      (λ at stands. elim stands [
        | inl first ↦ record { label = member; among = inl refl; inside = first }
        | inr rest ↦ record { label = rest.label; among = inr rest.among; inside = rest.inside }
      ])
      (λ at among. elim among.among [
        | inl same ↦ inl (subst (λ (name : List ℕ). Set name at) (sym same) among.inside)
        | inr later ↦ inr (record { label = among.label; among = later; inside = among.inside })
      ])
      (Total-union (Set member) (InFamily Set members) weight total (sum_on (λ t. t) totals)
      (λ at first rest.
      distinct.0 (subst (λ (name : List ℕ). In name members) (sym (one_of_part raw tree at.0 at.1 member rest.label first rest.inside)) rest.among))
      (member_by_pairs raw quantity local formed rules tree is member total are.0)
      (members_count members totals distinct.1 are.1))

  module _ (have : PartsHaveMembers raw tree) (place : Place) (name : List ℕ) (members : List (List ℕ))
      (group : AreMembersOf raw tree place name members) where
    -- A place of the group at which the part stands.
    abbrev pub IsStanding : PartPlace → Type 0
    IsStanding at = IsGroupName raw tree at.1 name × PartStands parts at.0 at.1

    -- the places of members in their parts are those of the group at which parts stand
    of_group : (at : PartPlace) → InFamily (StandsAt raw tree) members at → IsStanding at
    of_group at among =
        let member = among.label in
        let of = (group.are member).0 among.among in
        let together = members_together raw formed tree is at.1 of.0 member (member_at_part raw tree at.0 at.1 member among.inside) of.2 in
        let back = group_back raw tree at.1 of.0 together in (
          group_name_along raw tree of.0 at.1 name back (group_name_along raw tree place of.0 name of.1 group.named),
          part_stands raw parts at.0 at.1 (member_is_material raw formed rules tree is.typed is.clean at.0 at.1 member among.inside),
        )

    from_group : (at : PartPlace) → IsStanding at → InFamily (StandsAt raw tree) members at
    from_group at standing =
        let found = have at.0 at.1 standing.1 in
        let together = one_group raw formed tree is place at.1 name group.named standing.0 in
        record {
          label = found.0;
          among = (group.are found.0).1 (at.1, together, member_at_part raw tree at.0 at.1 found.0 found.1);
          inside = found.1;
        }

    -- the test whether a part stands
    abbrev standing_test : PartPlace → Bool
    standing_test at = not (part_at parts at.0 at.1 == 0)

    -- where it fails the part at that position is empty
    empty_at : (at : PartPlace) → standing_test at ≡ false → part_at parts at.0 at.1 ≡ 0
    empty_at at fails = elim (cases_eq (part_at parts at.0 at.1) 0) [
      | inl empty ↦ empty
      | inr full ↦ let differs : (part_at parts at.0 at.1 == 0) ≡ false = ne_eqb (part_at parts at.0 at.1) 0 full in
          absurd (true≢false (sym (ap not differs) ∙ fails))
    ]

    -- it holds where a part stands
    test_of_standing : (at : PartPlace) → PartStands parts at.0 at.1 → (at.0 < length parts) × (standing_test at ≡ true)
    test_of_standing at stands =
        let same : part_at parts at.0 ≡ stands.part = get_or_from_slice_get parts at.0 stands.part (λ p. 0) stands.there in
        let full : part_at parts at.0 at.1 ≢ 0 = λ empty. stands.material (ap (λ (part : SetLayout). part at.1) (sym same) ∙ empty) in (
          slice_get_within parts at.0 stands.part stands.there,
          ap not (ne_eqb (part_at parts at.0 at.1) 0 full),
        )

    -- and there alone
    standing_of_test : (at : PartPlace) → at.0 < length parts → standing_test at ≡ true → PartStands parts at.0 at.1
    standing_of_test at below holds = record {
      part = part_at parts at.0;
      there = slice_get-get_or parts at.0 (λ p. 0) below;
      material = λ empty.
          let zero_test : (part_at parts at.0 at.1 == 0) ≡ true = eq-eqb (part_at parts at.0 at.1) 0 empty in
          true≢false (sym holds ∙ ap not zero_test);
    }

    -- what the members of a group have together is counted where parts stand at its places
    pub members_stand : (totals : List ℤ) → Distinct members → AreMemberTotals raw quantity tree members totals
        → Total IsStanding weight (sum_on (λ total. total) totals)
    members_stand totals distinct are =
        Total-iff (InFamily (StandsAt raw tree) members) IsStanding weight (sum_on (λ total. total) totals) of_group from_group
        (members_count members totals distinct are)

    -- what the members of a group have together is what the parts count at its places
    pub members_count_parts : (totals : List ℤ) → Distinct members → AreMemberTotals raw quantity tree members totals
        → (places : List Place) → Lists (λ p. IsGroupName raw tree p name) places
        → sum_on (λ total. total) totals ≡ sum_on (parts_count raw quantity parts) places
    members_count_parts totals distinct are places listed =
        let positions = range_with_len 0 (length parts) in
        let pairs : List PartPlace = pairs_of positions places in
        let Within : PartPlace → Type 0 = λ at. (at.0 < length parts) × IsGroupName raw tree at.1 name in
        let all : Total Within weight (sum_on weight pairs) =
        Total-from_list Within weight pairs
        (Lists-pairs_of (λ k. k < length parts) (λ p. IsGroupName raw tree p name) positions places (Lists-below (length parts)) listed) in
        let some : Total IsStanding weight (sum_on weight pairs) =
        Total-iff (λ at. Within at × (standing_test at ≡ true)) IsStanding weight (sum_on weight pairs)
        (λ at passes. (passes.0.1, standing_of_test at passes.0.0 passes.1))
        (λ at standing. let test = test_of_standing at standing.1 in ((test.0, standing.0), test.1))
        (Total-support Within standing_test weight (sum_on weight pairs)
        (λ at within fails.
        local.nothing (part_layout raw (part_at parts at.0)) at.1 (part_of_empty raw (part_at parts at.0) at.1 (empty_at at fails))) all) in
        Total-unique IsStanding weight (sum_on (λ total. total) totals) (sum_on weight pairs) (members_stand totals distinct are) some
        ∙ sum_on-nested weight positions places
        ∙ sum_on-swap (λ k p. weight (k, p)) positions places
        ∙ sum_on-same (λ p. sum_on (λ k. weight (k, p)) positions) (parts_count raw quantity parts) places
        (λ p here. sum_of_positions (λ k. weight (k, p)) (λ part. quantity (part_layout raw part) p) 0 parts
        (λ position part there.
        let at : part_at parts (0 + position) ≡ part =
        ap (part_at parts) (omega arith) ∙ get_or_from_slice_get parts position part (λ q. 0) there in
        ap (λ (some_part : SetLayout). quantity (part_layout raw some_part) p) at))

    -- what a group adds is what its places count beyond the parts
    pub adjustment_by_places : Distinct members → (adjustment : ℤ) → IsAdjustment raw quantity tree name members adjustment
        → Total (λ p. IsGroupName raw tree p name) (excess raw quantity parts) adjustment
    adjustment_by_places distinct adjustment is_adjustment =
        let Of : Place → Type 0 = λ p. IsGroupName raw tree p name in
        let whole = is_adjustment.is_whole in
        let sums = sum_on (λ part. part) is_adjustment.parts in
        let together : Total Of (parts_count raw quantity parts) sums =
        (whole.0, (whole.1.0, sym (members_count_parts is_adjustment.parts distinct is_adjustment.are_parts whole.0 whole.1.0))) in
        Total-at Of (excess raw quantity parts) (is_adjustment.whole -ℤ sums) adjustment (sym is_adjustment.is)
        (Total-same Of (λ p. quantity (flat_layout raw tree) p -ℤ parts_count raw quantity parts p) (excess raw quantity parts)
        (is_adjustment.whole -ℤ sums)
        (λ p of. ap (λ (n : ℤ). n -ℤ parts_count raw quantity parts p)
        (local.same (flat_layout raw tree) (parts_layout raw parts) p (flat_is_of_parts raw tree)))
        (Total-sub Of (quantity (flat_layout raw tree)) (parts_count raw quantity parts) is_adjustment.whole sums whole together))

    -- and only those in squares at which parts meet do
    pub adjustment_within : (within : Square → Bool) (others : List SetLayout)
        → IsCountedWithin raw quantity (λ square. IsTrue (within square)) parts others → Distinct members
        → (adjustment : ℤ) → IsAdjustment raw quantity tree name members adjustment
        → Total (λ p. IsGroupName raw tree p name × IsTrue (within p.square)) (excess raw quantity others) adjustment
    adjustment_within within others counted_within distinct adjustment is_adjustment =
        let Of : Place → Type 0 = λ p. IsGroupName raw tree p name in
        Total-support Of (λ p. within p.square) (excess raw quantity others) adjustment
        (λ p of fails. sym (counted_within.same p) ∙ counted_within.elsewhere p (λ passes. true≢false (sym passes ∙ fails)))
        (Total-same Of (excess raw quantity parts) (excess raw quantity others) adjustment (λ p of. counted_within.same p)
        (adjustment_by_places distinct adjustment is_adjustment))
