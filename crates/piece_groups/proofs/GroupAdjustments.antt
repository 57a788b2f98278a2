-- What a group adds to its members, from what its places count where parts meet.
use Rattle.piece_groups.proofs.Common.{◌≡◌, ℕ, ℤ, Bool, false, List, [], ◌∷◌, inl, inr, refl, subst, In, In-map_source, All-from_In, Square, RawTech}
use Rattle.piece_groups.proofs.Common.{KeepsRules, IsWellFormed, Place, Class, class_of, rules_of, SetLayout, NamedTree, IsGroupName, AreAdjustments}
use Rattle.piece_groups.proofs.Common.{PlaceWeight, area_weight, perimeter_weight, capacitance_weight, IsAdjustment, Passes, excess, AreMembersOf}
use Rattle.piece_groups.proofs.Common.{AreMeetingMeasures, HasRecordsBelow}
use Rattle.finite_sets.specs.Total.{Total}
use Rattle.finite_sets.proofs.Searches.{All-In}
use Rattle.tech_model.specs.WellFormed.{IsClass}
use Rattle.group_meetings.proofs.Measures.MeasureLaws.{space_out}
use Rattle.group_meetings.specs.TreeNames.CleanTrees.{IsCleanTree}
use Rattle.group_meetings.specs.Laws.{IsRestrictedTo}
use Rattle.group_meetings.specs.Members.{PartsHaveMembers}
use Rattle.group_meetings.specs.AdjustmentLaws.{IsOfClasses}
use Rattle.group_meetings.proofs.AdjustmentLaws.{counts_are_adjustments}
use Rattle.piece_groups.proofs.RecordedTotals.{member_totals}

-- space is in no class
pub space_in_none : (raw : RawTech) → IsWellFormed raw → (class : Class) → In class (rules_of raw).classes → class.contains 0 ≡ false
space_in_none raw formed class listed =
    let source = In-map_source class_of class raw.classes listed in
    subst (λ (c : Class). c.contains 0 ≡ false) source.1.1
    (space_out raw source.0 (All-In (IsClass raw) raw.classes source.0 formed.classes source.1.0))

-- The place is of the group of this name, in the squares at which parts meet.
abbrev pub IsWithin : RawTech → (Square → Bool) → NamedTree → List ℕ → Place → Type 0
IsWithin raw within tree name place = IsGroupName raw tree place name × Passes within place.square

module _ (raw : RawTech) (formed : IsWellFormed raw) (rules : KeepsRules raw) (within : Square → Bool) (tree : NamedTree) (others : List SetLayout)
    (clean : IsCleanTree raw tree) (have : PartsHaveMembers raw tree) (restricted : IsRestrictedTo raw within tree others)
    (below : HasRecordsBelow raw tree) (place : Place) (name : List ℕ) (members : List (List ℕ))
    (group : AreMembersOf raw tree place name members) where
  abbrev Within : Place → Type 0
  Within = IsWithin raw within tree name

  -- what the places of the group count there is what it adds to its members
  adjusts : (quantity : PlaceWeight) → IsOfClasses quantity → (adjustment : ℤ) → Total Within (excess raw quantity others) adjustment
      → IsAdjustment raw quantity tree name members adjustment
  adjusts quantity of adjustment found =
      let totals = member_totals raw formed rules quantity tree clean.typed clean.clean below members
      (λ member listed. let is = (group.are member).0 listed in (is.0, is.2)) in
      counts_are_adjustments raw formed rules tree clean have within others restricted.holds restricted.restricted place name members group
      quantity of totals.0 totals.1 adjustment found

  -- its capacitance
  pub cap_adjusts : (cap : ℤ) → Total Within (excess raw (capacitance_weight (rules_of raw).classes) others) cap
      → IsAdjustment raw (capacitance_weight (rules_of raw).classes) tree name members cap
  cap_adjusts cap found =
      let classes = (rules_of raw).classes in
      adjusts (capacitance_weight classes)
      (inr (classes, All-from_In (λ (class : Class). class.contains 0 ≡ false) classes (space_in_none raw formed), refl)) cap found

  -- and its measures
  pub measures_adjust : (classes : List Class) → ((class : Class) → In class classes → class.contains 0 ≡ false) → (measures : List (ℤ × ℤ))
      → AreMeetingMeasures raw others classes Within measures → AreAdjustments raw classes tree name members measures
  measures_adjust [] outside [] found = tt
  measures_adjust [] outside (measure ∷ measures) found = absurd found
  measures_adjust (class ∷ classes) outside [] found = absurd found
  measures_adjust (class ∷ classes) outside (measure ∷ measures) found =
      let out = outside class (inl refl) in (
        adjusts (area_weight class) (inl (class, out, inl refl)) measure.0 found.0,
        adjusts (perimeter_weight class) (inl (class, out, inr refl)) measure.1 found.1,
        measures_adjust classes (λ other listed. outside other (inr listed)) measures found.2,
      )
