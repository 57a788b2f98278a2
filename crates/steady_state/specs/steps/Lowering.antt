-- What is below its floor at the beginning of a pass.
use Rattle.std.specs.Prelude.{◌≡◌, ℕ, ◌<◌, ◌≤◌, List, Bool, length, slice_index}
use Rattle.switch_net.specs.Sets.{IsInside, IsAmong}

-- The first n nodes of the list have 0 where they were below their floors, and wait where not, unless the list has no other node. No entry changed
-- that was not below its floor.
pub record IsLowered (order floor : List ℕ) (n : ℕ) (old new : List ℕ) (waiting : List Bool) : Type 0 where
  pub low : (i : ℕ) → i < n → slice_index old (slice_index order i) < slice_index floor (slice_index order i) → slice_index new (slice_index order i) ≡ 0
  pub kept : (v : ℕ) → slice_index floor v ≤ slice_index old v → slice_index new v ≡ slice_index old v
  pub less : (v : ℕ) → slice_index new v ≤ slice_index old v
  pub waits : (i : ℕ) → i < n → 1 < length order → slice_index floor (slice_index order i) ≤ slice_index old (slice_index order i) →
      IsInside waiting (slice_index order i)
  pub inner : (v : ℕ) → IsInside waiting v → IsAmong order (length order) v
