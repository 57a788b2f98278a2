-- What a group adds to its members, counted where parts meet, as statements.
use Rattle.std.specs.Prelude.{◌≡◌, ◌⊎◌, ◌↔◌, ℕ, ℤ, Bool, false, List, All}
use Rattle.finite_sets.specs.Lists.{In}
use Rattle.finite_sets.specs.Total.{Total}
use Rattle.tech_model.specs.GeoCore.declared.squares.Square.{Square}
use Rattle.tech_model.specs.declared.raw.RawTech.{RawTech}
use Rattle.tech_model.specs.Rules.{KeepsRules}
use Rattle.tech_model.specs.WellFormed.{IsWellFormed}
use Rattle.tree_names.specs.CircuitModel.FullNames.{AreInNameOrder}
use Rattle.tree_names.specs.LayoutModel.Places.{Place}
use Rattle.tree_names.specs.LayoutModel.Technologies.{Class}
use Rattle.group_meetings.specs.Offences.Offences.{SetLayout}
use Rattle.group_meetings.specs.HierarchyModel.Restrictions.{IsRestriction}
use Rattle.group_meetings.specs.TreeRecords.NamedTrees.{NamedTree}
use Rattle.group_meetings.specs.TreeRecords.MemberGroups.{IsGroupName, IsMemberOf}
use Rattle.group_meetings.specs.TreeNames.CleanTrees.{IsCleanTree}
use Rattle.group_meetings.specs.TreeRecords.PlaceWeights.{PlaceWeight, area_weight, perimeter_weight, capacitance_weight, AreMemberTotals, IsAdjustment}
use Rattle.group_meetings.specs.MeetingLaws.PartLayouts.{Passes, HoldsAllMeetings, excess}
use Rattle.group_meetings.specs.Members.{tree_parts, PartsHaveMembers}

-- It is the area or the perimeter in a class, or the capacitance in some classes. Space is in none of them.
abbrev pub IsOfClasses : PlaceWeight → Type 0
IsOfClasses quantity =
    ((class : Class) × (class.contains 0 ≡ false) × ((quantity ≡ area_weight class) ⊎ (quantity ≡ perimeter_weight class)))
    ⊎ ((classes : List Class) × All (λ class. class.contains 0 ≡ false) classes × (quantity ≡ capacitance_weight classes))

-- These are the members of the group that has the place and goes by this name, in name order.
pub record AreMembersOf (raw : RawTech) (tree : NamedTree) (place : Place) (name : List ℕ) (members : List (List ℕ)) : Type 0 where
  pub named : IsGroupName raw tree place name
  pub in_order : AreInNameOrder members
  pub are : (member : List ℕ) → In member members ↔ IsMemberOf raw tree place member

-- What a group of a clean cell adds to its members is what its places count in the restricted flat layout beyond the restricted parts, and
-- only those do that are in the squares at which parts meet.
abbrev pub AdjustmentsAreCountedWithin : RawTech → Type 0
AdjustmentsAreCountedWithin raw =
    IsWellFormed raw → KeepsRules raw → (tree : NamedTree) → IsCleanTree raw tree → PartsHaveMembers raw tree
    → (within : Square → Bool) (others : List SetLayout) → HoldsAllMeetings (Passes within) (tree_parts raw tree)
    → IsRestriction (Passes within) (tree_parts raw tree) others
    → (place : Place) (name : List ℕ) (members : List (List ℕ)) → AreMembersOf raw tree place name members
    → (quantity : PlaceWeight) → IsOfClasses quantity → (adjustment : ℤ) → IsAdjustment raw quantity tree name members adjustment
    → Total (λ p. IsGroupName raw tree p name × Passes within p.square) (excess raw quantity others) adjustment

-- Where the members of a group have totals, what the places of the group count so is what it adds to them.
abbrev pub CountsWithinAreAdjustments : RawTech → Type 0
CountsWithinAreAdjustments raw =
    IsWellFormed raw → KeepsRules raw → (tree : NamedTree) → IsCleanTree raw tree → PartsHaveMembers raw tree
    → (within : Square → Bool) (others : List SetLayout) → HoldsAllMeetings (Passes within) (tree_parts raw tree)
    → IsRestriction (Passes within) (tree_parts raw tree) others
    → (place : Place) (name : List ℕ) (members : List (List ℕ)) → AreMembersOf raw tree place name members
    → (quantity : PlaceWeight) → IsOfClasses quantity → (totals : List ℤ) → AreMemberTotals raw quantity tree members totals
    → (adjustment : ℤ) → Total (λ p. IsGroupName raw tree p name × Passes within p.square) (excess raw quantity others) adjustment
    → IsAdjustment raw quantity tree name members adjustment
