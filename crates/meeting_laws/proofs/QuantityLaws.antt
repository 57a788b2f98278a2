-- What is counted by types of places and of edges is counted where parts meet, and so are area, perimeter and capacitance.
use Rattle.meeting_laws.proofs.Common.{◌≡◌, ℕ, ℤ, pos, ◌-ℤ◌, List, sym, ap, ◌∙◌, arith, ints, sum_on, Square, RawTech, Place, SetLayout}
use Rattle.meeting_laws.proofs.Common.{IsRestriction, part_layout, parts_layout}
use Rattle.std.proofs.Common.{suc, ◌+ℤ◌, Bool, true, false, [], ◌∷◌, if◌then◌else◌, refl}
use Rattle.std.specs.Prelude.{◌*ℤ◌, All, not}
use Rattle.std.proofs.Math.IntN.{zero-*ℤ}
use Rattle.tech_model.specs.FiniteSets.Total.{one_if}
use Rattle.tech_model.proofs.FiniteSets.Sums.{sum_on-add, sum_on-sub, sum_on-swap, sum_on-same, sum_on-zero, sum_on-nothing, sum_on-scale_right}
use Rattle.hierarchy_model.specs.LayoutModel.Layouts.{Layout}
use Rattle.hierarchy_model.specs.LayoutModel.Places.{neighbours}
use Rattle.hierarchy_model.specs.LayoutModel.Technologies.{Class}
use Rattle.tree_records.proofs.FloodNodes.OpenEdges.{Lists-neighbours}
use Rattle.tree_records.specs.PlaceWeights.{PlaceWeight, area_weight, perimeter_weight, capacitance_weight}
use Rattle.meeting_laws.specs.PartLayouts.{HoldsAllMeetings, excess}
use Rattle.meeting_laws.specs.Laws.{IsCountedWithin}
use Rattle.meeting_laws.proofs.ListSums.{sum_by_position}
use Rattle.meeting_laws.proofs.ExcessLaws.{place_excess, edge_excess}
use Rattle.meeting_laws.proofs.RestrictionLaws.{place_elsewhere, place_same, edge_elsewhere, edge_same}

-- A place counts by its type, and by its type and that of each edge neighbour, and space counts nothing.
pub record IsByTypes (quantity : PlaceWeight) : Type 0 where
  pub weight : ℕ → ℤ
  pub edge : ℕ → ℕ → ℤ
  pub weight_of_space : weight 0 ≡ pos 0
  pub edge_of_space : (kind : ℕ) → edge 0 kind ≡ pos 0
  pub is : (layout : Layout) (place : Place)
      → quantity layout place ≡ weight (layout place) +ℤ sum_on (λ neighbour. edge (layout place) (layout neighbour)) (neighbours place)

split_difference : (a b x y : ℤ) → (a +ℤ x) -ℤ (b +ℤ y) ≡ (a -ℤ b) +ℤ (x -ℤ y)
split_difference a b x y = omega (arith, ints)

-- what a place counts beyond the parts is what it does so by its type, and what its edges do
by_types : (raw : RawTech) (quantity : PlaceWeight) (of : IsByTypes quantity) (parts : List SetLayout) (place : Place)
    → excess raw quantity parts place
    ≡ place_excess raw of.weight parts place +ℤ sum_on (λ neighbour. edge_excess raw of.edge parts place neighbour) (neighbours place)
by_types raw quantity of parts place =
    let flat : Layout = parts_layout raw parts in
    let whole = sum_on (λ neighbour. of.edge (flat place) (flat neighbour)) (neighbours place) in
    let weights = sum_on (λ part. of.weight (part_layout raw part place)) parts in
    let part_edge : SetLayout → Place → ℤ = λ part neighbour. of.edge (part_layout raw part place) (part_layout raw part neighbour) in
    let edges = sum_on (λ neighbour. sum_on (λ part. part_edge part neighbour) parts) (neighbours place) in
    let sums : sum_on (λ part. quantity (part_layout raw part) place) parts ≡ weights +ℤ edges =
    sum_by_position (λ part. quantity (part_layout raw part) place)
    (λ part. of.weight (part_layout raw part place) +ℤ sum_on (part_edge part) (neighbours place)) parts
    (λ position part there. of.is (part_layout raw part) place)
    ∙ sum_on-add (λ part. of.weight (part_layout raw part place)) (λ part. sum_on (part_edge part) (neighbours place)) parts
    ∙ ap (λ (n : ℤ). weights +ℤ n) (sum_on-swap part_edge parts (neighbours place)) in
    ap (λ (n : ℤ). n -ℤ sum_on (λ part. quantity (part_layout raw part) place) parts) (of.is flat place)
    ∙ ap (λ (n : ℤ). (of.weight (flat place) +ℤ whole) -ℤ n) sums
    ∙ split_difference (of.weight (flat place)) weights whole edges
    ∙ ap (λ (n : ℤ). place_excess raw of.weight parts place +ℤ n)
    (sym (sum_on-sub (λ neighbour. of.edge (flat place) (flat neighbour)) (λ neighbour. sum_on (λ part. part_edge part neighbour) parts) (neighbours place)))

module _ (Within : Square → Type 0) (parts others : List SetLayout) (restricted : IsRestriction Within parts others) (raw : RawTech)
    (holds : HoldsAllMeetings Within parts) where
  -- what counts by types is counted where parts meet
  pub types_counted : (quantity : PlaceWeight) → IsByTypes quantity → IsCountedWithin raw quantity Within parts others
  types_counted quantity of = record {
    same = λ place.
        by_types raw quantity of parts place
        ∙ ap (λ (n : ℤ). n +ℤ sum_on (λ neighbour. edge_excess raw of.edge parts place neighbour) (neighbours place))
        (place_same Within parts others restricted raw holds of.weight of.weight_of_space place)
        ∙ ap (λ (n : ℤ). place_excess raw of.weight others place +ℤ n)
        (sum_on-same (λ neighbour. edge_excess raw of.edge parts place neighbour) (λ neighbour. edge_excess raw of.edge others place neighbour)
        (neighbours place)
        (λ neighbour listed. edge_same Within parts others restricted raw holds of.edge of.edge_of_space place neighbour
        ((Lists-neighbours place).2 neighbour listed)))
        ∙ sym (by_types raw quantity of others place);
    elsewhere = λ place outside.
        by_types raw quantity of parts place
        ∙ ap (λ (n : ℤ). n +ℤ sum_on (λ neighbour. edge_excess raw of.edge parts place neighbour) (neighbours place))
        (place_elsewhere Within parts others restricted raw holds of.weight of.weight_of_space place outside)
        ∙ ap (λ (n : ℤ). pos 0 +ℤ n)
        (sum_on-nothing (λ neighbour. edge_excess raw of.edge parts place neighbour) (neighbours place)
        (λ neighbour listed. edge_elsewhere Within parts others restricted raw holds of.edge of.edge_of_space place neighbour
        ((Lists-neighbours place).2 neighbour listed) outside))
        ∙ omega (arith, ints);
  }

plus_nothing : (n : ℤ) (places : List Place) → n ≡ n +ℤ sum_on (λ place. pos 0) places
plus_nothing n places = sym (ap (λ (m : ℤ). n +ℤ m) (sum_on-zero places) ∙ omega (arith, ints))

-- area counts by types
pub area_by_types : (class : Class) → class.contains 0 ≡ false → IsByTypes (area_weight class)
area_by_types class out = record {
  weight = λ kind. one_if (class.contains kind);
  edge = λ kind beside. pos 0;
  weight_of_space = ap one_if out;
  edge_of_space = λ kind. refl;
  is = λ layout place. plus_nothing (one_if (class.contains (layout place))) (neighbours place);
}

-- a sum that counts under a condition is one whose terms do
sum_if : (holds : Bool) (w : Place → ℤ) (places : List Place)
    → (if holds then sum_on w places else pos 0) ≡ pos 0 +ℤ sum_on (λ place. if holds then w place else pos 0) places
sum_if true w places = omega (arith, ints)
sum_if false w places = plus_nothing (pos 0) places

-- perimeter counts by types
pub perimeter_by_types : (class : Class) → class.contains 0 ≡ false → IsByTypes (perimeter_weight class)
perimeter_by_types class out = record {
  weight = λ kind. pos 0;
  edge = λ kind beside. if class.contains kind then one_if (not (class.contains beside)) else pos 0;
  weight_of_space = refl;
  edge_of_space = λ kind. ap (λ (b : Bool). if b then one_if (not (class.contains kind)) else pos 0) out;
  is = λ layout place.
      sum_if (class.contains (layout place)) (λ neighbour. one_if (not (class.contains (layout neighbour)))) (neighbours place);
}

-- and so does what is nothing, as the capacitance in no class
pub nothing_by_types : IsByTypes (capacitance_weight [])
nothing_by_types = record {
  weight = λ kind. pos 0;
  edge = λ kind beside. pos 0;
  weight_of_space = refl;
  edge_of_space = λ kind. refl;
  is = λ layout place. plus_nothing (pos 0) (neighbours place);
}

-- ---- sums of quantities

-- a product with a sum of two, told as a sum over a list
product_of_sum : (m n k : ℤ) → (m *ℤ k) +ℤ ((n *ℤ k) +ℤ pos 0) ≡ (m +ℤ (n +ℤ pos 0)) *ℤ k
product_of_sum m n k = sum_on-scale_right (λ (x : ℤ). x) k (m ∷ n ∷ [])

pub product_of_difference : (m n k : ℤ) → (m -ℤ n) *ℤ k ≡ (m *ℤ k) -ℤ (n *ℤ k)
product_of_difference m n k =
    let whole : (m -ℤ n) +ℤ (n +ℤ pos 0) ≡ m = omega (arith, ints) in
    take_away ((m -ℤ n) *ℤ k) (n *ℤ k) (m *ℤ k) (product_of_sum (m -ℤ n) n k ∙ ap (λ (x : ℤ). x *ℤ k) whole)
  where
    take_away : (a b c : ℤ) → a +ℤ (b +ℤ pos 0) ≡ c → a ≡ c -ℤ b
    take_away a b c is = omega (arith, ints, is)

-- a quantity with a multiple of two others
abbrev pub combined : PlaceWeight → ℤ → PlaceWeight → ℤ → PlaceWeight → PlaceWeight
combined first j second k rest layout place = ((first layout place *ℤ j) +ℤ (second layout place *ℤ k)) +ℤ rest layout place

-- what it counts beyond the parts is what these do
excess_combined : (raw : RawTech) (first second rest : PlaceWeight) (j k : ℤ) (parts : List SetLayout) (place : Place)
    → excess raw (combined first j second k rest) parts place
    ≡ ((excess raw first parts place *ℤ j) +ℤ (excess raw second parts place *ℤ k)) +ℤ excess raw rest parts place
excess_combined raw first second rest j k parts place =
    let flat : Layout = parts_layout raw parts in
    let f : SetLayout → ℤ = λ part. first (part_layout raw part) place in
    let s : SetLayout → ℤ = λ part. second (part_layout raw part) place in
    let r : SetLayout → ℤ = λ part. rest (part_layout raw part) place in
    let sums : sum_on (λ part. ((f part *ℤ j) +ℤ (s part *ℤ k)) +ℤ r part) parts
    ≡ ((sum_on f parts *ℤ j) +ℤ (sum_on s parts *ℤ k)) +ℤ sum_on r parts =
    sum_on-add (λ part. (f part *ℤ j) +ℤ (s part *ℤ k)) r parts
    ∙ ap (λ (n : ℤ). n +ℤ sum_on r parts)
    (sum_on-add (λ part. f part *ℤ j) (λ part. s part *ℤ k) parts
    ∙ ap (λ (n : ℤ). n +ℤ sum_on (λ part. s part *ℤ k) parts) (sum_on-scale_right f j parts)
    ∙ ap (λ (n : ℤ). (sum_on f parts *ℤ j) +ℤ n) (sum_on-scale_right s k parts)) in
    ap (λ (n : ℤ). (((first flat place *ℤ j) +ℤ (second flat place *ℤ k)) +ℤ rest flat place) -ℤ n) sums
    ∙ apart (first flat place *ℤ j) (second flat place *ℤ k) (rest flat place) (sum_on f parts *ℤ j) (sum_on s parts *ℤ k) (sum_on r parts)
    ∙ ap (λ (n : ℤ). (n +ℤ ((second flat place *ℤ k) -ℤ (sum_on s parts *ℤ k))) +ℤ (rest flat place -ℤ sum_on r parts))
    (sym (product_of_difference (first flat place) (sum_on f parts) j))
    ∙ ap (λ (n : ℤ). (((first flat place -ℤ sum_on f parts) *ℤ j) +ℤ n) +ℤ (rest flat place -ℤ sum_on r parts))
    (sym (product_of_difference (second flat place) (sum_on s parts) k))
  where
    apart : (a b c x y z : ℤ) → ((a +ℤ b) +ℤ c) -ℤ ((x +ℤ y) +ℤ z) ≡ ((a -ℤ x) +ℤ (b -ℤ y)) +ℤ (c -ℤ z)
    apart a b c x y z = omega (arith, ints)

module _ (Within : Square → Type 0) (parts others : List SetLayout) (raw : RawTech) where
  combined_counted : (first second rest : PlaceWeight) (j k : ℤ) → IsCountedWithin raw first Within parts others
      → IsCountedWithin raw second Within parts others → IsCountedWithin raw rest Within parts others
      → IsCountedWithin raw (combined first j second k rest) Within parts others
  combined_counted first second rest j k f s r = record {
    same = λ place.
        excess_combined raw first second rest j k parts place
        ∙ ap (λ (n : ℤ). ((n *ℤ j) +ℤ (excess raw second parts place *ℤ k)) +ℤ excess raw rest parts place) (f.same place)
        ∙ ap (λ (n : ℤ). ((excess raw first others place *ℤ j) +ℤ (n *ℤ k)) +ℤ excess raw rest parts place) (s.same place)
        ∙ ap (λ (n : ℤ). ((excess raw first others place *ℤ j) +ℤ (excess raw second others place *ℤ k)) +ℤ n) (r.same place)
        ∙ sym (excess_combined raw first second rest j k others place);
    elsewhere = λ place outside.
        excess_combined raw first second rest j k parts place
        ∙ ap (λ (n : ℤ). ((n *ℤ j) +ℤ (excess raw second parts place *ℤ k)) +ℤ excess raw rest parts place) (f.elsewhere place outside)
        ∙ ap (λ (n : ℤ). ((pos 0 *ℤ j) +ℤ (n *ℤ k)) +ℤ excess raw rest parts place) (s.elsewhere place outside)
        ∙ ap (λ (n : ℤ). ((pos 0 *ℤ j) +ℤ (pos 0 *ℤ k)) +ℤ n) (r.elsewhere place outside)
        ∙ nothing (pos 0 *ℤ j) (pos 0 *ℤ k) (zero-*ℤ j) (zero-*ℤ k);
  }
    where
      nothing : (a b : ℤ) → a ≡ pos 0 → b ≡ pos 0 → (a +ℤ b) +ℤ pos 0 ≡ pos 0
      nothing a b first second = omega (arith, ints, first, second)

module _ (Within : Square → Type 0) (parts others : List SetLayout) (restricted : IsRestriction Within parts others) (raw : RawTech)
    (holds : HoldsAllMeetings Within parts) where
  -- area is counted where parts meet
  pub area_counted : (class : Class) → class.contains 0 ≡ false → IsCountedWithin raw (area_weight class) Within parts others
  area_counted class out = types_counted Within parts others restricted raw holds (area_weight class) (area_by_types class out)

  -- and so is perimeter
  pub perimeter_counted : (class : Class) → class.contains 0 ≡ false → IsCountedWithin raw (perimeter_weight class) Within parts others
  perimeter_counted class out = types_counted Within parts others restricted raw holds (perimeter_weight class) (perimeter_by_types class out)

  -- and so is capacitance
  pub capacitance_counted : (classes : List Class) → All (λ class. class.contains 0 ≡ false) classes
      → IsCountedWithin raw (capacitance_weight classes) Within parts others
  capacitance_counted [] out =
      types_counted Within parts others restricted raw holds (capacitance_weight []) nothing_by_types
  capacitance_counted (class ∷ classes) out =
      combined_counted Within parts others raw (area_weight class) (perimeter_weight class) (capacitance_weight classes) class.per_area class.per_perimeter
      (area_counted class (out 0 class (omega arith))) (perimeter_counted class (out 0 class (omega arith)))
      (capacitance_counted classes (λ index other below. out (suc index) other (omega (arith, below))))
