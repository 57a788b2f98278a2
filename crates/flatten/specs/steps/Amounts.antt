-- What is summed: a capacitance, and an area and a perimeter in each class.
use Rattle.std.specs.Prelude.{◌≡◌, ℕ, ◌<◌, ℤ, ◌+ℤ◌, List, length}
use Rattle.std.specs.Int.{w128}
use Rattle.std.specs.Int.RustNames.{FitsSigned}
use Rattle.circuit_model.specs.FlatNodes.{measure_of}
use Rattle.flatten.specs.declared.sums.NodeSum.{NodeSum}

-- the two sums fit
abbrev pub FitsMeasure : ℤ × ℤ → ℤ × ℤ → Type 0
FitsMeasure sum measure = FitsSigned w128 (sum.0 +ℤ measure.0) × FitsSigned w128 (sum.1 +ℤ measure.1)

-- the two sums are the new ones
abbrev pub AddsMeasure : ℤ × ℤ → ℤ × ℤ → ℤ × ℤ → Type 0
AddsMeasure sum measure new = (new.0 ≡ sum.0 +ℤ measure.0) × (new.1 ≡ sum.1 +ℤ measure.1)

-- so in each class
abbrev pub FitMeasures : List (ℤ × ℤ) → List (ℤ × ℤ) → Type 0
FitMeasures sums measures = (class : ℕ) → class < length sums → FitsMeasure (measure_of class sums) (measure_of class measures)

-- The new measures are the sums in each class.
pub record AddMeasures (sums measures new : List (ℤ × ℤ)) : Type 0 where
  pub long : length new ≡ length sums
  pub each : (class : ℕ) → class < length sums → AddsMeasure (measure_of class sums) (measure_of class measures) (measure_of class new)

-- All sums fit.
pub record FitAmounts (sum : NodeSum) (cap : ℤ) (measures : List (ℤ × ℤ)) : Type 0 where
  pub cap_fits : FitsSigned w128 (sum.cap +ℤ cap)
  pub measures_fit : FitMeasures sum.measures.items measures

-- The new sums are the old ones and these amounts.
pub record AddsAmounts (sum : NodeSum) (cap : ℤ) (measures : List (ℤ × ℤ)) (new : NodeSum) : Type 0 where
  pub new_cap : new.cap ≡ sum.cap +ℤ cap
  pub new_measures : AddMeasures sum.measures.items measures new.measures.items
