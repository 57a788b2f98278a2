-- Going over an order from its start on: which cells are still ahead.
use Rattle.cell_tree.proofs.Common.{◌≡◌, ℕ, ◌<◌, ◌≤◌, List, length, arith, ext_get_or, Size, size_at, no_size, at, StandsIn}

-- The cell stands in the order from this place on.
pub record StandsFrom (order : List ℕ) (start key : ℕ) : Type 0 where
  pub place : ℕ
  pub from : start ≤ place
  pub before : place < length order
  pub is : at order place ≡ key

pub from_start : (order : List ℕ) (key : ℕ) → StandsIn order key → StandsFrom order 0 key
from_start order key s = record { place = s.place; from = omega arith; before = s.before; is = s.is }

pub from_end : (order : List ℕ) (start key : ℕ) → length order ≤ start → StandsFrom order start key → ⊥
from_end order start key past s = omega (arith, s.from, s.before, past)

-- where nothing is ahead the lists agree
pub copy_end : (order : List ℕ) (to from : List Size) (k : ℕ) → length order ≤ k → length to ≡ length from
    → ((key : ℕ) → (StandsFrom order k key → ⊥) → size_at to key ≡ size_at from key) → to ≡ from
copy_end order to from k past long same = ext_get_or no_size to from long (λ key within. same key (from_end order k key past))
