-- What a group adds to its members is counted where parts meet: the law of area, perimeter and capacitance.
use Rattle.group_meetings.proofs.Common.{Bool, List, inl, inr, sym, subst, Square, RawTech, PlaceWeight, IsCountedWithin}
use Rattle.group_meetings.proofs.NameClasses.ClassLaws.{distinct_in_order}
use Rattle.group_meetings.specs.Offences.Offences.{SetLayout}
use Rattle.group_meetings.specs.HierarchyModel.Restrictions.{IsRestriction}
use Rattle.group_meetings.specs.MeetingLaws.PartLayouts.{Passes, HoldsAllMeetings}
use Rattle.group_meetings.proofs.MeetingLaws.QuantityLaws.{area_counted, perimeter_counted, capacitance_counted}
use Rattle.group_meetings.specs.AdjustmentLaws.{AdjustmentsAreCountedWithin, CountsWithinAreAdjustments, IsOfClasses}
use Rattle.group_meetings.proofs.LocalQuantities.{IsLocal, area_local, perimeter_local, capacitance_local}
use Rattle.group_meetings.proofs.GroupSums.{adjustment_within}
use Rattle.group_meetings.proofs.FoundAdjustments.{found_adjustment}

-- area, perimeter and capacitance are local
pub classes_local : (quantity : PlaceWeight) → IsOfClasses quantity → IsLocal quantity
classes_local quantity (inl (class, out, inl same)) = subst IsLocal (sym same) (area_local class out)
classes_local quantity (inl (class, out, inr same)) = subst IsLocal (sym same) (perimeter_local class out)
classes_local quantity (inr (classes, out, same)) = subst IsLocal (sym same) (capacitance_local classes out)

-- and they are counted where parts meet
pub classes_counted : (raw : RawTech) (within : Square → Bool) (parts others : List SetLayout) → IsRestriction (Passes within) parts others
    → HoldsAllMeetings (Passes within) parts → (quantity : PlaceWeight) → IsOfClasses quantity
    → IsCountedWithin raw quantity (Passes within) parts others
classes_counted raw within parts others restricted holds quantity of =
    let P : PlaceWeight → Type 0 = λ q. IsCountedWithin raw q (Passes within) parts others in
    elim of [
      | inl area ↦ elim area.2 [
        | inl same ↦ subst P (sym same) (area_counted (Passes within) parts others restricted raw holds area.0 area.1)
        | inr same ↦ subst P (sym same) (perimeter_counted (Passes within) parts others restricted raw holds area.0 area.1)
      ]
      | inr cap ↦ subst P (sym cap.2) (capacitance_counted (Passes within) parts others restricted raw holds cap.0 cap.1)
    ]

-- what a group adds to its members is counted where parts meet
pub adjustments_counted : (raw : RawTech) → AdjustmentsAreCountedWithin raw
adjustments_counted raw formed rules tree is have within others holds restricted place name members group quantity of adjustment adds =
    adjustment_within raw formed rules tree is quantity (classes_local quantity of) have place name members group within others
    (classes_counted raw within _ others restricted holds quantity of) (distinct_in_order members group.in_order) adjustment adds

-- and what is counted there is what the group adds
pub counts_are_adjustments : (raw : RawTech) → CountsWithinAreAdjustments raw
counts_are_adjustments raw formed rules tree is have within others holds restricted place name members group quantity of totals are adjustment found =
    found_adjustment raw formed rules tree is quantity (classes_local quantity of) have place name members group totals
    (distinct_in_order members group.in_order) are within others (classes_counted raw within _ others restricted holds quantity of) adjustment found
