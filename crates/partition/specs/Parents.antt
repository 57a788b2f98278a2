-- Classes as a forest: each number has a parent, itself or a lesser number of its class.
use Rattle.std.specs.Prelude.{ℕ, zero, suc, ◌≤◌, List, map, length, slice_index, EachIndex}
use Rattle.std.specs.List.{range_with_len}

-- no parent is greater than its number
abbrev pub PointDown : List ℕ → Type 0
PointDown parents = EachIndex parents (λ k. slice_index parents k ≤ k)

-- where so many steps from a number to its parent lead
abbrev pub ancestor : List ℕ → ℕ → ℕ → ℕ
ancestor parents zero k = k
ancestor parents (suc steps) k = ancestor parents steps (slice_index parents k)

-- at each number the root above it, which it reaches in no more steps than it counts
unfoldable pub leaders_of : List ℕ → List ℕ
leaders_of parents = map (λ k. ancestor parents k k) (range_with_len 0 (length parents))
