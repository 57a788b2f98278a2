-- The numbers below n, each with a mark: those of one mark are a class.
use Rattle.std.specs.Prelude.{◌≡◌, ◌↔◌, ℕ, ◌<◌, ◌≤◌, List, length, slice_index, All}
use Rattle.finite_sets.specs.Least.{IsLeast}

-- the number is one of those with the mark
abbrev pub HasMark : List ℕ → ℕ → ℕ → Type 0
HasMark marks mark k = (k < length marks) × (slice_index marks k ≡ mark)

-- two lists of marks make the same classes
abbrev pub SameClasses : List ℕ → List ℕ → Type 0
SameClasses marks others =
    (a b : ℕ) → a < length marks → b < length marks
    → (slice_index marks a ≡ slice_index marks b) ↔ (slice_index others a ≡ slice_index others b)

-- the marks are the numbers below the count, in the order of the least number that has each
pub record IsNumbered (marks : List ℕ) (count : ℕ) : Type 0 where
  pub below : All (λ mark. mark < count) marks
  pub used : (mark : ℕ) → mark < count → (least : ℕ) × IsLeast ◌≤◌ (HasMark marks mark) least
  pub in_order :
      (mark greater least other : ℕ) → mark < greater
      → IsLeast ◌≤◌ (HasMark marks mark) least → IsLeast ◌≤◌ (HasMark marks greater) other → least < other
