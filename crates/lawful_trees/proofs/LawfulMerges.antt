-- The merges of the record of a clean cell are lawful.
use Rattle.lawful_trees.proofs.Common.{◌≡◌, ◌≤◌, ℕ, ℤ, pos, List, [], ◌∷◌, map, length, inl, inr, refl, subst, arith, All, length-map, In, Distinct}
use Rattle.lawful_trees.proofs.Common.{In-map_source, All-from_In, All-In, ClassRec, RawTech, KeepsRules, IsClass, IsWellFormed, MergeRec, IsMeasure}
use Rattle.lawful_trees.proofs.Common.{IsMaterial, Place, Class, class_of, rules_of, flat_layout, NamedTree, IsCleanTree, tree_parts}
use Rattle.std.proofs.Common.{Bool, true, false, if◌then◌else◌}
use Rattle.ext_model.specs.Lawful.{AreMeasures}
use Rattle.library_trees.proofs.Measures.MeasureLaws.{space_out}
use Rattle.library_trees.proofs.NameClasses.ClassLaws.{distinct_in_order}
use Rattle.library_trees.specs.TreeRecords.Merges.{Adjustment, AreAdjustments, IsMemberGroup, MemberGroup, group_merges, is_zero_adjustment, merge_of, zero_adjustment}
use Rattle.group_meetings.proofs.LocalQuantities.{area_local, capacitance_local, perimeter_local}
use Rattle.lawful_trees.proofs.MemberSums.{adjustment_small}
use Rattle.lawful_trees.proofs.NearPlaces.{IsPaintPlace}
use Rattle.lawful_trees.proofs.SmallWeights.{area_little, capacitance_little, perimeter_little}

-- The capacitance and the measures have the size that a record may have, for so many classes.
pub record IsSmall (classes : ℕ) (charge : ℤ) (pairs : List (ℤ × ℤ)) : Type 0 where
  pub cap : IsMeasure charge
  pub measures : AreMeasures classes pairs

-- The merge does.
abbrev pub IsSmallMerge : ℕ → MergeRec → Type 0
IsSmallMerge classes merge = IsSmall classes merge.cap merge.measures

-- a pair of zeros has it
zero_is_small : IsMeasure (pos 0)
zero_is_small = omega arith

-- and so have pairs of zeros
zero_measures : (classes : List Class) → AreMeasures (length classes) (map (λ (class : Class). (pos 0, pos 0)) classes)
zero_measures classes =
    let zero : Class → ℤ × ℤ = λ class. (pos 0, pos 0) in
    record {
      count = length-map classes zero;
      areas = All-from_In (λ (measure : ℤ × ℤ). IsMeasure measure.0) (map zero classes)
          (λ measure listed. (let source = In-map_source zero measure classes listed in
          subst (λ (m : ℤ × ℤ). IsMeasure m.0) source.1.1 zero_is_small));
      perimeters = All-from_In (λ (measure : ℤ × ℤ). IsMeasure measure.1) (map zero classes)
          (λ measure listed. (let source = In-map_source zero measure classes listed in
          subst (λ (m : ℤ × ℤ). IsMeasure m.1) source.1.1 zero_is_small));
    }

-- the merge with zeros
zero_merge : (classes : List Class) (first other : List ℕ) → IsSmallMerge (length classes) (merge_of first other (zero_adjustment classes))
zero_merge classes first other = record { cap = zero_is_small; measures = zero_measures classes }

-- the only merge of a list that may be empty
only_one : (P : MergeRec → Type 0) (empty : Bool) (one merge : MergeRec) → P one → In merge (if empty then [] else (one ∷ [])) → P merge
only_one P true one merge is none = absurd none
only_one P false one merge is (inl same) = subst P same is
only_one P false one merge is (inr none) = absurd none

-- the merges of a group have it where its adjustment has
merges_small : (classes : List Class) (adjustment : Adjustment) (members : List (List ℕ)) → IsSmall (length classes) adjustment.cap adjustment.measures
    → (merge : MergeRec) → In merge (group_merges classes (record { members = members; adjustment = adjustment })) → IsSmallMerge (length classes) merge
merges_small classes adjustment [] small merge none = absurd none
merges_small classes adjustment (name ∷ []) small merge here =
    only_one (IsSmallMerge (length classes)) (is_zero_adjustment adjustment) (merge_of name name adjustment) merge
    (record { cap = small.cap; measures = small.measures }) here
merges_small classes adjustment (name ∷ next ∷ more) small merge (inl same) =
    subst (IsSmallMerge (length classes)) same (record { cap = small.cap; measures = small.measures })
merges_small classes adjustment (name ∷ next ∷ more) small merge (inr later) =
    let source = In-map_source (λ (other : List ℕ). merge_of name other (zero_adjustment classes)) merge more later in
    subst (IsSmallMerge (length classes)) source.1.1 (zero_merge classes name source.0)

module _ (raw : RawTech) (formed : IsWellFormed raw) (rules : KeepsRules raw) (tree : NamedTree) (is : IsCleanTree raw tree)
    (near : (place : Place) → IsMaterial (flat_layout raw tree) place → IsPaintPlace place) (few : length (tree_parts raw tree) ≤ 1000000) where
  -- the classes do not have space
  class_out : (class : ClassRec) → In class raw.classes → (class_of class).contains 0 ≡ false
  class_out class listed = space_out raw class (All-In (IsClass raw) raw.classes class formed.classes listed)

  -- the same of the rules of the technology
  classes_out : All (λ (class : Class). class.contains 0 ≡ false) (rules_of raw).classes
  classes_out =
      All-from_In (λ (class : Class). class.contains 0 ≡ false) (rules_of raw).classes
      (λ class listed. (let source = In-map_source class_of class raw.classes listed in
      subst (λ (c : Class). c.contains 0 ≡ false) source.1.1 (class_out source.0 source.1.0)))

  -- an area and a perimeter of the size that a record may have
  abbrev IsSmallPair : ℤ × ℤ → Type 0
  IsSmallPair measure = IsMeasure measure.0 × IsMeasure measure.1

  -- There are so many pairs, and each is of that size.
  record AreSmallPairs (count : ℕ) (measures : List (ℤ × ℤ)) : Type 0 where
    long : length measures ≡ count
    each : (measure : ℤ × ℤ) → In measure measures → IsSmallPair measure

  -- the areas and perimeters that a group adds are such pairs
  pairs_small : (name : List ℕ) (members : List (List ℕ)) → Distinct members → (classes : List Class)
      → ((class : Class) → In class classes → class.contains 0 ≡ false)
      → (measures : List (ℤ × ℤ)) → AreAdjustments raw classes tree name members measures → AreSmallPairs (length classes) measures
  pairs_small name members distinct [] out [] are = record { long = refl; each = λ measure none. absurd none }
  pairs_small name members distinct [] out (measure ∷ measures) are = absurd are
  pairs_small name members distinct (class ∷ classes) out [] are = absurd are
  pairs_small name members distinct (class ∷ classes) out (measure ∷ measures) are =
      let space = out class (inl refl) in
      let area = adjustment_small raw formed rules tree is near _ (area_local class space) (area_little class) few name members distinct measure.0
      are.0 in
      let edges = adjustment_small raw formed rules tree is near _ (perimeter_local class space) (perimeter_little class) few name members distinct
      measure.1 are.1 in
      let rest = pairs_small name members distinct classes (λ other later. out other (inr later)) measures are.2 in
      record {
        long = omega (arith, rest.long);
        each = λ other listed. elim listed [ inl same ↦ subst IsSmallPair same (area, edges) | inr later ↦ rest.each other later ];
      }

  -- what a group adds to its members is of the size that a record may have
  group_small : (group : MemberGroup) → IsMemberGroup raw tree group
      → IsSmall (length (rules_of raw).classes) group.adjustment.cap group.adjustment.measures
  group_small group of =
      let distinct = distinct_in_order group.members of.in_order in
      let classes = (rules_of raw).classes in
      let pairs = pairs_small of.name group.members distinct classes (λ class listed.
      All-In (λ (c : Class). c.contains 0 ≡ false) classes class classes_out listed) group.adjustment.measures of.measures in
      record {
        cap = adjustment_small raw formed rules tree is near _ (capacitance_local classes classes_out) (capacitance_little raw formed) few of.name
            group.members distinct group.adjustment.cap of.cap;
        measures = record {
          count = pairs.long;
          areas = All-from_In (λ (measure : ℤ × ℤ). IsMeasure measure.0) group.adjustment.measures (λ measure listed. (pairs.each measure listed).0);
          perimeters =
              All-from_In (λ (measure : ℤ × ℤ). IsMeasure measure.1) group.adjustment.measures (λ measure listed. (pairs.each measure listed).1);
        };
      }

  -- and so are the merges of its group
  pub group_merge_small : (group : MemberGroup) → IsMemberGroup raw tree group → (merge : MergeRec)
      → In merge (group_merges (rules_of raw).classes group) → IsSmallMerge (length (rules_of raw).classes) merge
  group_merge_small group of merge listed =
      merges_small (rules_of raw).classes group.adjustment group.members (group_small group of) merge listed
