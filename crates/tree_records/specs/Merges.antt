-- The groups of a cell with their adjustments, and the merges of a record.
use Rattle.std.specs.Prelude.{◌≡◌, ◌⊎◌, ◌↔◌, ◌&&◌, ℕ, ℤ, pos, Bool, true, if◌then◌else◌, List, [], ◌∷◌, map, AllPairs}
use Rattle.std.specs.List.{flat_map, list_all}
use Rattle.std.specs.Ordering.{int_eq}
use Rattle.circuit_model.specs.FiniteSets.Lists.{In}
use Rattle.tree_records.specs.TechModel.declared.raw.RawTech.{RawTech}
use Rattle.tree_records.specs.LayoutModel.Layouts.{IsMaterial}
use Rattle.tree_records.specs.LayoutModel.Places.{Place}
use Rattle.tree_records.specs.LayoutModel.Technologies.{Class, rules_of}
use Rattle.circuit_model.specs.ExtModel.declared.records.MergeRec.{MergeRec}
use Rattle.circuit_model.specs.FullNames.{AreInNameOrder}
use Rattle.tree_records.specs.FetRecords.{IsNameBefore}
use Rattle.tree_records.specs.NamedTrees.{NamedTree}
use Rattle.tree_records.specs.FlatLayouts.{flat_layout}
use Rattle.tree_records.specs.MemberGroups.{IsGroupName, IsMemberOf}
use Rattle.tree_records.specs.PlaceWeights.{area_weight, capacitance_weight, perimeter_weight, IsAdjustment}

-- What is to be added to the sum of a group's members: a capacitance in attofarads, and for each class an area in square lambda and a perimeter
-- in lambda. Each may be negative.
pub record Adjustment : Type 0 where
  pub cap : ℤ
  pub measures : List (ℤ × ℤ)

-- the adjustment that changes nothing
abbrev pub zero_adjustment : List Class → Adjustment
zero_adjustment classes = record { cap = pos 0; measures = map (λ class. (pos 0, pos 0)) classes }

-- all of it is zero
abbrev pub is_zero_adjustment : Adjustment → Bool
is_zero_adjustment adjustment = int_eq adjustment.cap (pos 0) && list_all (λ measure. int_eq measure.0 (pos 0) && int_eq measure.1 (pos 0)) adjustment.measures

-- The pairs are the adjustments of the group's area and perimeter in each class in order.
abbrev pub AreAdjustments : RawTech → List Class → NamedTree → List ℕ → List (List ℕ) → List (ℤ × ℤ) → Type 0
AreAdjustments raw [] tree name members [] = Unit {0}
AreAdjustments raw [] tree name members (measure ∷ measures) = ⊥
AreAdjustments raw (class ∷ classes) tree name members [] = ⊥
AreAdjustments raw (class ∷ classes) tree name members (measure ∷ measures) =
    IsAdjustment raw (area_weight class) tree name members measure.0
    × IsAdjustment raw (perimeter_weight class) tree name members measure.1
    × AreAdjustments raw classes tree name members measures

-- the members of a group by name, in name order, and its adjustment
pub record MemberGroup : Type 0 where
  pub members : List (List ℕ)
  pub adjustment : Adjustment

-- This is a group of the cell, named by the first of its members: all its members in name order, and its adjustment.
pub record IsMemberGroup (raw : RawTech) (tree : NamedTree) (group : MemberGroup) : Type 0 where
  pub place : Place
  pub name : List ℕ
  pub named : IsGroupName raw tree place name
  pub others : List (List ℕ)
  pub members_are : group.members ≡ name ∷ others
  pub in_order : AreInNameOrder group.members
  pub members : (member : List ℕ) → In member group.members ↔ IsMemberOf raw tree place member
  pub cap : IsAdjustment raw (capacitance_weight (rules_of raw).classes) tree name group.members group.adjustment.cap
  pub measures : AreAdjustments raw (rules_of raw).classes tree name group.members group.adjustment.measures

-- a merge of two members with an adjustment
abbrev pub merge_of : List ℕ → List ℕ → Adjustment → MergeRec
merge_of first second adjustment = record { first = first; second = second; cap = adjustment.cap; measures = adjustment.measures }

-- The merges of a group: its first member with each of the others, the first of these merges with the adjustment and the others with zeros. A
-- group of one member has one merge of that member with itself where its adjustment is not zero, and else none.
abbrev pub group_merges : List Class → MemberGroup → List MergeRec
group_merges classes group =
    elim group.members [
      | [] ↦ []
      | first ∷ others ↦ elim others [
        | [] ↦ if is_zero_adjustment group.adjustment then [] else merge_of first first group.adjustment ∷ []
        | second ∷ more ↦ merge_of first second group.adjustment ∷ map (λ other. merge_of first other (zero_adjustment classes)) more
      ]
    ]

-- the name of a group
abbrev pub group_name : MemberGroup → List ℕ
group_name group = elim group.members [ [] ↦ [] | first ∷ others ↦ first ]

-- The group that contains the place is one of these, or it has one member and its adjustment is zero.
pub record HasGroupIn (raw : RawTech) (tree : NamedTree) (groups : List MemberGroup) (place : Place) : Type 0 where
  pub group : MemberGroup
  pub is : IsMemberGroup raw tree group
  pub named : IsGroupName raw tree place (group_name group)
  pub listed : In group groups ⊎ ((group.members ≡ group_name group ∷ []) × (is_zero_adjustment group.adjustment ≡ true))

-- These are the merges of the cell's record: those of its groups, in the name order of the groups.
pub record AreGroupMerges (raw : RawTech) (tree : NamedTree) (merges : List MergeRec) : Type 0 where
  pub groups : List MemberGroup
  pub sound : (group : MemberGroup) → In group groups → IsMemberGroup raw tree group
  pub in_order : AllPairs (λ a b. IsNameBefore (group_name a) (group_name b)) groups
  pub whole : (place : Place) → IsMaterial (flat_layout raw tree) place → HasGroupIn raw tree groups place
  pub are : merges ≡ flat_map (group_merges (rules_of raw).classes) groups
