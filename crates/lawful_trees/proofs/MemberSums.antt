-- What a group weighs, and what its members weigh together, is small.
use Rattle.lawful_trees.proofs.Common.{◌≡◌, ◌≤◌, ℕ, ℤ, List, [], ◌∷◌, length, inl, inr, refl, sym, ap, subst, arith, ints, In, Distinct, sum_on}
use Rattle.lawful_trees.proofs.Common.{Total, RawTech, KeepsRules, IsWellFormed, IsMeasure, IsMaterial, Place, flat_layout, NamedTree, IsCleanTree}
use Rattle.lawful_trees.proofs.Common.{tree_parts}
use Rattle.std.proofs.Common.{◌⊎◌, ◌+ℤ◌, ◌-ℤ◌}
use Rattle.std.proofs.lemmas.Option.{slice_get_within}
use Rattle.finite_sets.proofs.Totals.{Total-iff, Total-map, Total-none, Total-union}
use Rattle.group_meetings.proofs.LayoutModel.Families.{InFamily}
use Rattle.library_trees.specs.TreeRecords.MemberGroups.{IsGroupName}
use Rattle.library_trees.specs.TreeRecords.PlaceWeights.{PlaceWeight, AreMemberTotals, IsAdjustment}
use Rattle.group_meetings.specs.MeetingLaws.PartLayouts.{part_layout}
use Rattle.group_meetings.proofs.MemberMaterial.{flat_of_part, member_is_material, named_is_material}
use Rattle.group_meetings.proofs.MemberSteps.{one_of_part}
use Rattle.group_meetings.proofs.GroupSums.{StandsAt}
use Rattle.group_meetings.proofs.LocalQuantities.{IsLocal}
use Rattle.group_meetings.proofs.MemberTotals.{counted, member_by_pairs, part_at}
use Rattle.lawful_trees.proofs.FewPlaces.{IsNear, IsSmallSum, PartPlace, small_total}
use Rattle.lawful_trees.proofs.NearPlaces.{IsPaintPlace}
use Rattle.lawful_trees.proofs.SmallWeights.{CountsLittle}

-- a whole and parts that are small leave the size of a measure
measure_of : (count : ℕ) (whole sums : ℤ) → count ≤ 1000000 → IsSmallSum 1 whole → IsSmallSum count sums → IsMeasure (whole -ℤ sums)
measure_of count whole sums few first second =
    omega (arith, ints, few, first.low, first.high, second.low, second.high)

module _ (raw : RawTech) (formed : IsWellFormed raw) (rules : KeepsRules raw) (tree : NamedTree) (is : IsCleanTree raw tree)
    (near : (place : Place) → IsMaterial (flat_layout raw tree) place → IsPaintPlace place) (quantity : PlaceWeight) (local : IsLocal quantity)
    (little : CountsLittle quantity) where
  -- what a place counts in the part at a position
  abbrev weight : PartPlace → ℤ
  weight = counted raw quantity (tree_parts raw tree)

  -- what members have together is counted at their places in their parts
  members_count : (members : List (List ℕ)) (totals : List ℤ) → Distinct members → AreMemberTotals raw quantity tree members totals
      → Total (InFamily (StandsAt raw tree) members) weight (sum_on (λ total. total) totals)
  members_count [] [] distinct are = Total-none (InFamily (StandsAt raw tree) []) weight (λ at among. among.among)
  members_count [] (total ∷ totals) distinct are = absurd are
  members_count (member ∷ members) [] distinct are = absurd are
  members_count (member ∷ members) (total ∷ totals) distinct are =
      let Set : List ℕ → PartPlace → Type 0 = StandsAt raw tree in
      Total-iff (λ at. Set member at ⊎ InFamily Set members at) (InFamily Set (member ∷ members)) weight (total +ℤ sum_on (λ t. t) totals)
      (λ at stands. elim stands [
        | inl first ↦ record { label = member; among = inl refl; inside = first }
        | inr rest ↦ record { label = rest.label; among = inr rest.among; inside = rest.inside }
      ])
      (λ at among. elim among.among [
        | inl same ↦ inl (subst (λ (name : List ℕ). Set name at) (sym same) among.inside)
        | inr later ↦ inr (record { label = among.label; among = later; inside = among.inside })
      ])
      (Total-union (Set member) (InFamily Set members) weight total (sum_on (λ t. t) totals)
      (λ at first rest.
      distinct.0 (subst (λ (name : List ℕ). In name members) (sym (one_of_part raw tree at.0 at.1 member rest.label first rest.inside)) rest.among))
      (member_by_pairs raw quantity local formed rules tree is member total are.0)
      (members_count members totals distinct.1 are.1))

  -- a member stands in a part of the cell, where there may be paint
  stands_near : (at : PartPlace) (member : List ℕ) → StandsAt raw tree member at → IsNear (length (tree_parts raw tree)) at
  stands_near at member stands =
      let material = member_is_material raw formed rules tree is.typed is.clean at.0 at.1 member stands in
      record {
        below = slice_get_within (tree_parts raw tree) at.0 material.part material.there;
        place = near at.1 (flat_of_part raw tree is.clean at.0 at.1 material);
      }

  -- so what members have together is small
  members_small : (members : List (List ℕ)) (totals : List ℤ) → Distinct members → AreMemberTotals raw quantity tree members totals
      → IsSmallSum (length (tree_parts raw tree)) (sum_on (λ total. total) totals)
  members_small members totals distinct are =
      small_total (length (tree_parts raw tree)) (InFamily (StandsAt raw tree) members) weight (sum_on (λ total. total) totals)
      (λ at. little (part_layout raw (part_at (tree_parts raw tree) at.0)) at.1) (λ at among. stands_near at among.label among.inside)
      (members_count members totals distinct are)

  -- and so is what a group has
  whole_small : (name : List ℕ) (whole : ℤ) → Total (λ p. IsGroupName raw tree p name) (quantity (flat_layout raw tree)) whole → IsSmallSum 1 whole
  whole_small name whole total =
      let first : Place → PartPlace = λ p. (0, p) in
      let Within : PartPlace → Type 0 = λ at. (p : Place) × (IsGroupName raw tree p name × (first p ≡ at)) in
      small_total 1 Within (λ at. quantity (flat_layout raw tree) at.1) whole (λ at. little (flat_layout raw tree) at.1)
      (λ at within. subst (IsNear 1) within.1.1
      (record {
        below = omega arith;
        place = near within.0 (named_is_material raw formed rules tree is.typed is.clean within.0 name within.1.0);
      }))
      (Total-map (λ p. IsGroupName raw tree p name) first (λ (at : PartPlace). quantity (flat_layout raw tree) at.1) whole
      (λ a b here there same. ap (λ (at : PartPlace). at.1) same) total)

  -- what a group adds to its members has the size of a measure
  pub adjustment_small : length (tree_parts raw tree) ≤ 1000000 → (name : List ℕ) (members : List (List ℕ)) → Distinct members
      → (adjustment : ℤ) → IsAdjustment raw quantity tree name members adjustment → IsMeasure adjustment
  adjustment_small few name members distinct adjustment adds =
      subst IsMeasure (sym adds.is)
      (measure_of (length (tree_parts raw tree)) adds.whole (sum_on (λ part. part) adds.parts) few (whole_small name adds.whole adds.is_whole)
      (members_small members adds.parts distinct adds.are_parts))
