-- The sums of groups are what their places count, in each class and together as capacitance.
use Rattle.meeting_sums.proofs.Common.{◌≡◌, ℕ, suc, ◌<◌, pos, ℤ, ◌+ℤ◌, ◌-ℤ◌, ◌*ℤ◌, true, false, List, [], ◌∷◌, map, length, get_or, inl, inr, refl}
use Rattle.meeting_sums.proofs.Common.{sym, ◌∙◌, ap, subst, arith, ints, slice_get_within, get_or_from_slice_get, In, Lists, sum_on, Total, In-index}
use Rattle.meeting_sums.proofs.Common.{Total-add, Total-at, Total-from_list, Total-iff, Total-same, Contact, ClassRec, RawTech, Place, Class}
use Rattle.meeting_sums.proofs.Common.{capacitance, class_of, IsTileContact, IsInTiles, PlaneStack, SetLayout, ArePlaneStacks, area_weight}
use Rattle.meeting_sums.proofs.Common.{perimeter_weight, part_layout, parts_layout, excess, Column, MeetingSum, area_beyond, perimeter_beyond}
use Rattle.meeting_sums.proofs.Common.{IsColumn, AreColumns, pairs_at, tiles_of, IsInGroup}
use Rattle.std.proofs.Math.IntN.{*ℤ_comm}
use Rattle.finite_sets.proofs.Sums.{sum_on-add, sum_on-zero, sum_on-scale_right}
use Rattle.finite_sets.proofs.Totals.{Total-scale}
use Rattle.tech_model.specs.WellFormed.{IsWellFormed, IsClass}
use Rattle.meeting_laws.proofs.Measures.MeasureLaws.{space_out}
use Rattle.offences.specs.LayoutModel.Layouts.{Layout}
use Rattle.meeting_laws.specs.TreeRecords.PlaceWeights.{PlaceWeight, capacitance_weight}
use Rattle.meeting_laws.proofs.QuantityLaws.{combined, product_of_difference}
use Rattle.meeting_sums.specs.Sums.{AreMeetingMeasures, IsMeetingSum, IsSumOf, AreMeetingSums}
use Rattle.meeting_sums.proofs.ColumnLaws.{no_sum}
use Rattle.meeting_sums.proofs.MeetingLaws.{of_group, in_group, from_group, tiles_area_beyond, tiles_perimeter_beyond}
use Rattle.meeting_sums.proofs.StackTests.{pieces_spread}
use Rattle.meeting_sums.proofs.TileTests.{stands, stands_test, tested_area}

-- what a quantity with multiples of others counts beyond the parts is what these do
excess_combined : (raw : RawTech) (first second rest : PlaceWeight) (j k : ℤ) (parts : List SetLayout) (place : Place)
    → ((excess raw first parts place *ℤ j) +ℤ (excess raw second parts place *ℤ k)) +ℤ excess raw rest parts place
    ≡ excess raw (combined first j second k rest) parts place
excess_combined raw first second rest j k parts place =
    let flat : Layout = parts_layout raw parts in
    let f : SetLayout → ℤ = λ part. first (part_layout raw part) place in
    let s : SetLayout → ℤ = λ part. second (part_layout raw part) place in
    let r : SetLayout → ℤ = λ part. rest (part_layout raw part) place in
    (λ i. (product_of_difference (first flat place) (sum_on f parts) j i +ℤ product_of_difference (second flat place) (sum_on s parts) k i)
    +ℤ excess raw rest parts place)
    ∙ together (first flat place *ℤ j) (second flat place *ℤ k) (rest flat place) (sum_on f parts *ℤ j) (sum_on s parts *ℤ k) (sum_on r parts)
    ∙ ap (λ (n : ℤ). combined first j second k rest flat place -ℤ n) (sym sums)
  where
    together : (a b c x y z : ℤ) → ((a -ℤ x) +ℤ (b -ℤ y)) +ℤ (c -ℤ z) ≡ ((a +ℤ b) +ℤ c) -ℤ ((x +ℤ y) +ℤ z)
    together a b c x y z = omega (arith, ints)

    sums : sum_on (λ part. combined first j second k rest (part_layout raw part) place) parts
        ≡ ((sum_on (λ part. first (part_layout raw part) place) parts *ℤ j) +ℤ (sum_on (λ part. second (part_layout raw part) place) parts *ℤ k))
        +ℤ sum_on (λ part. rest (part_layout raw part) place) parts
    sums =
        sum_on-add (λ part. (first (part_layout raw part) place *ℤ j) +ℤ (second (part_layout raw part) place *ℤ k))
        (λ part. rest (part_layout raw part) place) parts
        ∙ ap (λ (n : ℤ). n +ℤ sum_on (λ part. rest (part_layout raw part) place) parts)
        (sum_on-add (λ part. first (part_layout raw part) place *ℤ j) (λ part. second (part_layout raw part) place *ℤ k) parts
        ∙ (λ i. sum_on-scale_right (λ part. first (part_layout raw part) place) j parts i +ℤ sum_on-scale_right (λ part. second (part_layout raw part) place)
        k parts i))

module _ (raw : RawTech) (parts : List SetLayout) (Within : Place → Type 0) (places : List Place) (lists : Lists Within places) where
  -- capacitance beyond the parts is that of the measures beyond them
  pub capacitance_beyond : (classes : List Class) (measures : List (ℤ × ℤ)) → AreMeetingMeasures raw parts classes Within measures
      → Total Within (excess raw (capacitance_weight classes) parts) (capacitance classes measures)
  capacitance_beyond [] [] are =
      Total-same Within (λ place. pos 0) (excess raw (capacitance_weight []) parts) (pos 0)
      (λ place h. nothing (sum_on (λ (part : SetLayout). pos 0) parts) (sum_on-zero parts))
      (Total-at Within (λ place. pos 0) (sum_on (λ place. pos 0) places) (pos 0) (sum_on-zero places) (Total-from_list Within (λ place. pos 0) places lists))
    where
      nothing : (n : ℤ) → n ≡ pos 0 → pos 0 ≡ pos 0 -ℤ n
      nothing n e = omega (arith, ints, e)
  capacitance_beyond [] (m ∷ ms) are = absurd are
  capacitance_beyond (class ∷ classes) [] are = absurd are
  capacitance_beyond (class ∷ classes) (m ∷ ms) are =
      let j = class.per_area in
      let k = class.per_perimeter in
      let area = excess raw (area_weight class) parts in
      let perimeter = excess raw (perimeter_weight class) parts in
      let rest = excess raw (capacitance_weight classes) parts in
      let squares : Total Within (λ place. area place *ℤ j) (m.0 *ℤ j) =
      Total-same Within (λ place. j *ℤ area place) (λ place. area place *ℤ j) (m.0 *ℤ j) (λ place h. *ℤ_comm j (area place))
      (Total-at Within (λ place. j *ℤ area place) (j *ℤ m.0) (m.0 *ℤ j) (*ℤ_comm j m.0) (Total-scale Within j area m.0 are.0)) in
      let edges : Total Within (λ place. perimeter place *ℤ k) (m.1 *ℤ k) =
      Total-same Within (λ place. k *ℤ perimeter place) (λ place. perimeter place *ℤ k) (m.1 *ℤ k) (λ place h. *ℤ_comm k (perimeter place))
      (Total-at Within (λ place. k *ℤ perimeter place) (k *ℤ m.1) (m.1 *ℤ k) (*ℤ_comm k m.1) (Total-scale Within k perimeter m.1 are.1)) in
      Total-same Within (λ place. ((area place *ℤ j) +ℤ (perimeter place *ℤ k)) +ℤ rest place) (excess raw (capacitance_weight (class ∷ classes)) parts)
      (((m.0 *ℤ j) +ℤ (m.1 *ℤ k)) +ℤ capacitance classes ms)
      (λ place h. excess_combined raw (area_weight class) (perimeter_weight class) (capacitance_weight classes) j k parts place)
      (Total-add Within (λ place. (area place *ℤ j) +ℤ (perimeter place *ℤ k)) rest ((m.0 *ℤ j) +ℤ (m.1 *ℤ k)) (capacitance classes ms)
      (Total-add Within (λ place. area place *ℤ j) (λ place. perimeter place *ℤ k) (m.0 *ℤ j) (m.1 *ℤ k) squares edges)
      (capacitance_beyond classes ms are.2))

module _ (raw : RawTech) (parts : List SetLayout) (stacks : List PlaneStack) (are : ArePlaneStacks raw parts stacks) (contacts : List Contact)
    (listed : Lists (IsTileContact (tiles_of stacks)) contacts) (groups : List ℕ) (one_each : length groups ≡ length stacks) (count group : ℕ)
    (below : group < count) where
  abbrev Within : Place → Type 0
  Within = IsInGroup stacks groups group

  abbrev InTiles : Place → Type 0
  InTiles = IsInTiles (tiles_of stacks) (of_group groups group)

  -- totals over tiles are totals over places of the group
  total_in_group : (w : Place → ℤ) (n : ℤ) → Total InTiles w n → Total Within w n
  total_in_group w n = Total-iff InTiles Within w n (in_group stacks groups group one_each) (from_group stacks groups group)

  -- a pair for each class
  columns_measure : (classes : List ClassRec) (columns : List Column) → length columns ≡ length classes
      → ((class : ClassRec) → In class classes → (class_of class).contains 0 ≡ false)
      → ((k : ℕ) (class : ClassRec) (column : Column) → k < length classes → IsColumn (class_of (get_or classes k class)).contains stacks contacts groups count
      (get_or columns k column))
      → AreMeetingMeasures raw parts (map class_of classes) Within (pairs_at group columns)
  columns_measure [] [] long none each = tt
  columns_measure [] (c ∷ cs) long none each = absurd (omega (arith, long))
  columns_measure (k ∷ ks) [] long none each = absurd (omega (arith, long))
  columns_measure (k ∷ ks) (c ∷ cs) long none each =
      let first = each 0 k c (omega arith) in
      let contains = (class_of k).contains in
      let out = none k (inl refl) in (
        Total-at Within (excess raw (area_weight (class_of k)) parts) _ _ (sym (first.area group below))
            (total_in_group (excess raw (area_weight (class_of k)) parts) (area_beyond contains stacks groups group)
            (tiles_area_beyond raw parts stacks are groups group contains out (class_of k) refl)),
        Total-at Within (excess raw (perimeter_weight (class_of k)) parts) _ _ (sym (first.perimeter group below))
            (total_in_group (excess raw (perimeter_weight (class_of k)) parts) (perimeter_beyond contains stacks contacts groups group)
            (tiles_perimeter_beyond raw parts stacks are groups group contains out contacts listed (class_of k) refl)),
        columns_measure ks cs (omega (arith, long)) (λ d i. none d (inr i)) (λ j d e less. each (suc j) d e (omega (arith, less))),
      )

  -- the sum of the group
  pub sum_is : (columns : List Column) (sum : MeetingSum) → IsWellFormed raw → AreColumns raw.classes stacks contacts groups count columns
      → IsSumOf raw.classes columns group sum → IsMeetingSum raw parts Within sum
  sum_is columns sum well have is =
      let measures : AreMeetingMeasures raw parts (map class_of raw.classes) Within sum.measures =
      subst (AreMeetingMeasures raw parts (map class_of raw.classes) Within) (sym is.measures)
      (columns_measure raw.classes columns have.so_many
      (λ class i. let x = In-index class raw.classes i in space_out raw class (subst (IsClass raw) (x.1.1 class) (well.classes x.0 class x.1.0))) have.each) in
      let spread = pieces_spread raw parts stacks are in
      let all = tested_area (tiles_of stacks) spread (λ i. true) (stands (tiles_of stacks)) (stands_test (tiles_of stacks)) (of_group groups group) in
      let finite = total_in_group _ _ all in
      record {
        cap = Total-at Within (excess raw (capacitance_weight (map class_of raw.classes)) parts) _ _ (sym is.cap)
            (capacitance_beyond raw parts Within finite.0 finite.1.0 (map class_of raw.classes) sum.measures measures);
        measures = measures;
      }

-- the sums of all groups
pub sums_are : (raw : RawTech) (stacks : List PlaneStack) (contacts : List Contact) (groups : List ℕ) (count : ℕ) (columns : List Column)
    (sums : List MeetingSum) → IsWellFormed raw → Lists (IsTileContact (tiles_of stacks)) contacts → length groups ≡ length stacks
    → AreColumns raw.classes stacks contacts groups count columns → length sums ≡ count
    → ((k : ℕ) → k < count → IsSumOf raw.classes columns k (get_or sums k no_sum))
    → (parts : List SetLayout) → ArePlaneStacks raw parts stacks → AreMeetingSums raw parts stacks groups count sums
sums_are raw stacks contacts groups count columns sums well listed one_each have many each parts are = record {
  one_each = many;
  each = λ group sum there.
      let within = slice_get_within sums group sum there in
      let below : group < count = omega (arith, within, many) in
      sum_is raw parts stacks are contacts listed groups one_each count group below columns sum well have
      (subst (IsSumOf raw.classes columns group) (get_or_from_slice_get sums group sum no_sum there) (each group below));
}
