-- Amounts of quantities.
use Rattle.flatten.proofs.Common.{◌≡◌, ℕ, ◌<◌, ℤ, pos, ◌+ℤ◌, List, length, arith, w128, FitsSigned, IsMeasure, NodeSum, FitAmounts, AddsAmounts}
use Rattle.flatten.proofs.Common.{Quantity, amount, IsCounted, IsLawfulAmount, Capacitance, Area, Perimeter}

-- each amount of a lawful record is small
pub small_amount : (classes : ℕ) (cap : ℤ) (measures : List (ℤ × ℤ)) → IsLawfulAmount classes cap measures → (quantity : Quantity)
    → IsCounted classes quantity
    → IsMeasure (amount quantity cap measures)
small_amount classes cap measures lawful Capacitance counted = lawful.small
small_amount classes cap measures lawful (Area class) counted =
    lawful.all_small.areas class (pos 0, pos 0) (let count = lawful.all_small.count in omega (arith, counted, count))
small_amount classes cap measures lawful (Perimeter class) counted =
    lawful.all_small.perimeters class (pos 0, pos 0) (let count = lawful.all_small.count in omega (arith, counted, count))

-- each amount is added
pub added_amount : (classes : ℕ) (sum : NodeSum) (cap : ℤ) (measures : List (ℤ × ℤ)) (new : NodeSum) → length sum.measures.items ≡ classes
    → AddsAmounts sum cap measures new → (quantity : Quantity) → IsCounted classes quantity
    → amount quantity new.cap new.measures.items ≡ amount quantity sum.cap sum.measures.items +ℤ amount quantity cap measures
added_amount classes sum cap measures new long adds Capacitance counted = adds.new_cap
added_amount classes sum cap measures new long adds (Area class) counted = (adds.new_measures.each class (omega (arith, counted, long))).0
added_amount classes sum cap measures new long adds (Perimeter class) counted = (adds.new_measures.each class (omega (arith, counted, long))).1

-- where the sum of each amount fits, all fit
pub fit_amounts : (classes : ℕ) (sum : NodeSum) (cap : ℤ) (measures : List (ℤ × ℤ)) → length sum.measures.items ≡ classes
    → ((quantity : Quantity) → IsCounted classes quantity
    → FitsSigned w128 (amount quantity sum.cap sum.measures.items +ℤ amount quantity cap measures))
    → FitAmounts sum cap measures
fit_amounts classes sum cap measures long each = record {
  cap_fits = each Capacitance tt;
  measures_fit = λ class inside.
      (let counted : class < classes = omega (arith, inside, long) in (each (Area class) counted, each (Perimeter class) counted));
}
