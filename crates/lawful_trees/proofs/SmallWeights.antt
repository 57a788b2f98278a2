-- A place counts little for an area, a perimeter or a capacitance.
use Rattle.lawful_trees.proofs.Common.{◌≡◌, ℕ, ℤ, pos, negsuc, ◌≤◌, length, List, [], ◌∷◌, map, inl, inr, refl, sym, ap, subst, ◌∙◌, arith, ints, In}
use Rattle.lawful_trees.proofs.Common.{sum_on, All-In, ClassRec, RawTech, IsClass, IsWellFormed, Layout, Place, Class, class_of, rules_of}
use Rattle.std.proofs.Common.{◌+ℤ◌, ◌*ℤ◌, ◌≤ℤ◌, ◌*◌, Bool, true, false, cond}
use Rattle.std.proofs.Common.{not}
use Rattle.std.specs.Prelude.{◌==◌}
use Rattle.std.proofs.Math.Nat.{mul-le-mul_left}
use Rattle.std.proofs.Math.IntN.{zero-*ℤ}
use Rattle.std.proofs.lemmas.Bool.{cases_Bool, eqb-true}
use Rattle.finite_sets.specs.Total.{one_if}
use Rattle.finite_sets.proofs.Pairs.{Pairwise, Pairwise-from_AllPairs}
use Rattle.finite_sets.proofs.Searches.{list_any-source}
use Rattle.tech_model.specs.declared.raw.TypeId.{TypeId}
use Rattle.group_meetings.specs.LayoutModel.Places.{neighbours}
use Rattle.library_trees.specs.TreeRecords.PlaceWeights.{PlaceWeight, area_weight, perimeter_weight, capacitance_weight}

-- A number from 0 to five million.
pub record IsLittle (z : ℤ) : Type 0 where
  pub low : pos 0 ≤ℤ z
  pub high : z ≤ℤ pos 5000000

-- Each place counts little.
abbrev pub CountsLittle : PlaceWeight → Type 0
CountsLittle quantity = (layout : Layout) (place : Place) → IsLittle (quantity layout place)

-- From 0 to a bound.
record IsUpTo (most : ℕ) (z : ℤ) : Type 0 where
  low : pos 0 ≤ℤ z
  high : z ≤ℤ pos most

-- a test counts at most 1
one_if_up_to : (b : Bool) → IsUpTo 1 (one_if b)
one_if_up_to true = record { low = omega (arith, ints); high = omega (arith, ints) }
one_if_up_to false = record { low = omega (arith, ints); high = omega (arith, ints) }

-- a sum of such numbers is no greater than the list is long
sum_up_to : (w : Place → ℤ) (places : List Place) → ((p : Place) → IsUpTo 1 (w p)) → IsUpTo (length places) (sum_on w places)
sum_up_to w [] each = record { low = omega (arith, ints); high = omega (arith, ints) }
sum_up_to w (place ∷ places) each =
    let here = each place in
    let rest = sum_up_to w places each in
    record { low = omega (arith, ints, here.low, rest.low); high = omega (arith, ints, here.high, rest.high) }

-- what counts only where a test holds counts no more
if_up_to : (most : ℕ) (b : Bool) (z : ℤ) → IsUpTo most z → IsUpTo most (cond b z (pos 0))
if_up_to most true z is = is
if_up_to most false z is = record { low = omega (arith, ints); high = omega (arith, ints) }

-- a place counts at most 1 for an area
area_up_to : (class : Class) (layout : Layout) (place : Place) → IsUpTo 1 (area_weight class layout place)
area_up_to class layout place = one_if_up_to (class.contains (layout place))

-- and at most 4 for a perimeter
perimeter_up_to : (class : Class) (layout : Layout) (place : Place) → IsUpTo 4 (perimeter_weight class layout place)
perimeter_up_to class layout place =
    if_up_to 4 (class.contains (layout place)) (sum_on (λ neighbour. one_if (not (class.contains (layout neighbour)))) (neighbours place))
    (sum_up_to (λ neighbour. one_if (not (class.contains (layout neighbour)))) (neighbours place)
    (λ p. one_if_up_to (not (class.contains (layout p)))))

-- a place counts little for an area
pub area_little : (class : Class) → CountsLittle (area_weight class)
area_little class layout place =
    let is = area_up_to class layout place in record { low = is.low; high = omega (arith, ints, is.high) }

-- and for a perimeter
pub perimeter_little : (class : Class) → CountsLittle (perimeter_weight class)
perimeter_little class layout place =
    let is = perimeter_up_to class layout place in record { low = is.low; high = omega (arith, ints, is.high) }

-- ---- capacitances

-- a product with a number of a class
product_up_to : (most n : ℕ) (z : ℤ) → IsUpTo most z → IsUpTo (n * most) (z *ℤ pos n)
product_up_to most n (pos m) is =
    let less : n * m ≤ n * most = mul-le-mul_left n (omega (arith, ints, is.high)) in
    record { low = omega (arith, ints); high = omega (arith, ints, less) }
product_up_to most n (negsuc m) is = absurd (omega (arith, ints, is.low))

-- what a place counts in one class
abbrev counted_in : Class → Layout → Place → ℤ
counted_in class layout place = (area_weight class layout place *ℤ class.per_area) +ℤ (perimeter_weight class layout place *ℤ class.per_perimeter)

-- it is little
counted_little : (raw : RawTech) (class : ClassRec) → IsClass raw class → (layout : Layout) (place : Place)
    → IsLittle (counted_in (class_of class) layout place)
counted_little raw class is layout place =
    let area = product_up_to 1 class.per_area (area_weight (class_of class) layout place) (area_up_to (class_of class) layout place) in
    let edges = product_up_to 4 class.per_perimeter (perimeter_weight (class_of class) layout place)
    (perimeter_up_to (class_of class) layout place) in
    record {
      low = omega (arith, ints, area.low, edges.low);
      high = omega (arith, ints, area.high, edges.high, is.per_area, is.per_perimeter);
    }

-- a place counts nothing in a class that does not have its type
counted_nothing : (class : Class) (layout : Layout) (place : Place) → class.contains (layout place) ≡ false → counted_in class layout place ≡ pos 0
counted_nothing class layout place out =
    let area : area_weight class layout place ≡ pos 0 = ap one_if out in
    let edges : perimeter_weight class layout place ≡ pos 0 =
    ap (λ (b : Bool). cond b (sum_on (λ neighbour. one_if (not (class.contains (layout neighbour)))) (neighbours place)) (pos 0)) out in
    let first = ap (λ (z : ℤ). z *ℤ class.per_area) area ∙ zero-*ℤ class.per_area in
    let second = ap (λ (z : ℤ). z *ℤ class.per_perimeter) edges ∙ zero-*ℤ class.per_perimeter in
    ap (λ (z : ℤ). z +ℤ (perimeter_weight class layout place *ℤ class.per_perimeter)) first ∙ ap (λ (z : ℤ). pos 0 +ℤ z) second

-- The class has the type.
abbrev HasType : ClassRec → ℕ → Type 0
HasType class kind = (class_of class).contains kind ≡ true

-- the two classes have no type in common
abbrev AreApartClasses : ClassRec → ClassRec → Type 0
AreApartClasses a b = (t : TypeId) → In t a.types → In t b.types → ⊥

-- a type of the one is none of the other
not_in_both : (a b : ClassRec) → AreApartClasses a b → (kind : ℕ) → HasType a kind → (class_of b).contains kind ≡ false
not_in_both a b apart kind here =
    let test : TypeId → Bool = λ t. t.0 == kind in
    elim (cases_Bool ((class_of b).contains kind)) [
      | inr out ↦ out
      | inl there ↦
          let first = list_any-source test a.types here in
          let second = list_any-source test b.types there in
          let same : first.0.0 ≡ second.0.0 = eqb-true first.0.0 kind first.1.1 ∙ sym (eqb-true second.0.0 kind second.1.1) in
          absurd (apart first.0 first.1.0
          (subst (λ (n : ℕ). In (record { 0 = n }) b.types) (sym same) second.1.0))
    ]

-- and in classes of which none has its type
all_nothing : (classes : List ClassRec) (layout : Layout) (place : Place)
    → ((class : ClassRec) → In class classes → (class_of class).contains (layout place) ≡ false)
    → capacitance_weight (map class_of classes) layout place ≡ pos 0
all_nothing [] layout place out = refl
all_nothing (class ∷ classes) layout place out =
    ap (λ (z : ℤ). z +ℤ capacitance_weight (map class_of classes) layout place)
    (counted_nothing (class_of class) layout place (out class (inl refl)))
    ∙ ap (λ (z : ℤ). pos 0 +ℤ z) (all_nothing classes layout place (λ other later. out other (inr later)))

-- a place is of one class at most, and counts little there
classes_little : (raw : RawTech) (classes : List ClassRec) → Pairwise AreApartClasses classes
    → ((class : ClassRec) → In class classes → IsClass raw class) → CountsLittle (capacitance_weight (map class_of classes))
classes_little raw [] apart each layout place = record { low = omega (arith, ints); high = omega (arith, ints) }
classes_little raw (class ∷ classes) apart each layout place =
    let kind = layout place in
    let rest = capacitance_weight (map class_of classes) layout place in
    elim (cases_Bool ((class_of class).contains kind)) [
      | inl has ↦
          let none : rest ≡ pos 0 =
          all_nothing classes layout place (λ other later. not_in_both class other (apart.0 other later) kind has) in
          let here = counted_little raw class (each class (inl refl)) layout place in
          record { low = omega (arith, ints, here.low, none); high = omega (arith, ints, here.high, none) }
      | inr out ↦
          let none = counted_nothing (class_of class) layout place out in
          let later = classes_little raw classes apart.1 (λ other listed. each other (inr listed)) layout place in
          record { low = omega (arith, ints, later.low, none); high = omega (arith, ints, later.high, none) }
    ]

-- a place counts little for a capacitance
pub capacitance_little : (raw : RawTech) → IsWellFormed raw → CountsLittle (capacitance_weight (rules_of raw).classes)
capacitance_little raw well =
    classes_little raw raw.classes (Pairwise-from_AllPairs AreApartClasses raw.classes well.classes_apart)
    (λ class listed. All-In (IsClass raw) raw.classes class well.classes listed)
