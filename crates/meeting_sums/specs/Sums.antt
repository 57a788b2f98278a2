-- What groups of pieces count in the flat layout beyond the parts.
use Rattle.std.specs.Prelude.{◌≡◌, ℕ, ℤ, List, [], ◌∷◌, length, map, Some, slice_get}
use Rattle.finite_sets.specs.Total.{Total}
use Rattle.tech_model.specs.declared.raw.ClassRec.{ClassRec}
use Rattle.tech_model.specs.declared.raw.RawTech.{RawTech}
use Rattle.offences.specs.LayoutModel.Places.{Place}
use Rattle.offences.specs.LayoutModel.Technologies.{Class, class_of, rules_of, capacitance}
use Rattle.offences.specs.declared.plane_stacks.PlaneStack.{PlaneStack}
use Rattle.offences.specs.Offences.{SetLayout}
use Rattle.meeting_laws.specs.TreeRecords.PlaceWeights.{area_weight, perimeter_weight, capacitance_weight}
use Rattle.meeting_laws.specs.PartLayouts.{excess}
use Rattle.meeting_sums.specs.declared.columns.Column.{Column}
use Rattle.meeting_sums.specs.declared.sums.MeetingSum.{MeetingSum}
use Rattle.meeting_sums.specs.steps.Counts.{pairs_at}
use Rattle.meeting_sums.specs.StackTiles.{IsInGroup}

-- The pairs are what these places count for the area and for the perimeter in each class in order, in the flat layout of the parts less what
-- they count in each of them.
abbrev pub AreMeetingMeasures : RawTech → List SetLayout → List Class → (Place → Type 0) → List (ℤ × ℤ) → Type 0
AreMeetingMeasures raw parts [] Within [] = Unit {0}
AreMeetingMeasures raw parts [] Within (measure ∷ measures) = ⊥
AreMeetingMeasures raw parts (class ∷ classes) Within [] = ⊥
AreMeetingMeasures raw parts (class ∷ classes) Within (measure ∷ measures) =
    Total Within (excess raw (area_weight class) parts) measure.0
    × Total Within (excess raw (perimeter_weight class) parts) measure.1
    × AreMeetingMeasures raw parts classes Within measures

-- It is what these places count in the flat layout of the parts less what they count in each of them: a capacitance, and the measures of each
-- class.
pub record IsMeetingSum (raw : RawTech) (parts : List SetLayout) (Within : Place → Type 0) (sum : MeetingSum) : Type 0 where
  pub cap : Total Within (excess raw (capacitance_weight (rules_of raw).classes) parts) sum.cap
  pub measures : AreMeetingMeasures raw parts (rules_of raw).classes Within sum.measures

-- The sum of a group has its pair of each column, and their capacitance.
pub record IsSumOf (classes : List ClassRec) (columns : List Column) (group : ℕ) (sum : MeetingSum) : Type 0 where
  pub measures : sum.measures ≡ pairs_at group columns
  pub cap : sum.cap ≡ capacitance (map class_of classes) sum.measures

-- Each group has the sum of its places.
pub record AreMeetingSums (raw : RawTech) (parts : List SetLayout) (stacks : List PlaneStack) (groups : List ℕ) (count : ℕ) (sums : List MeetingSum)
    : Type 0 where
  pub one_each : length sums ≡ count
  pub each : (group : ℕ) (sum : MeetingSum) → slice_get sums group ≡ Some sum → IsMeetingSum raw parts (IsInGroup stacks groups group) sum
