-- Terminals by nodes: those whose regions are of one node are one.
use Rattle.std.specs.Prelude.{◌≡◌, ◌==◌, ◌<◌, ℕ, ℤ, pos, Bool, if◌then◌else◌, List, slice_index, Option, Some, None, AllPairs}
use Rattle.std.specs.List.{list_any}
use Rattle.finite_sets.specs.Lists.{In}
use Rattle.finite_sets.specs.Total.{sum_on}

-- the terminal's region is of the node with this number
abbrev pub is_to : List ℕ → ℕ → ℕ × ℤ → Bool
is_to numbers number terminal = slice_index numbers terminal.0 == number

-- what a terminal adds to the length to a node
abbrev pub length_in : List ℕ → ℕ → ℕ × ℤ → ℤ
length_in numbers number terminal = if is_to numbers number terminal then terminal.1 else pos 0

-- the length to a node: the sum of what terminals add, and nothing where none is of the node
abbrev pub length_told : List ℕ → List (ℕ × ℤ) → ℕ → Option ℤ
length_told numbers terminals number =
    if list_any (is_to numbers number) terminals then Some (sum_on (length_in numbers number) terminals) else None

-- There is a terminal for each node that has some, with the length to it, in the order of their numbers.
pub record AreJoined (numbers : List ℕ) (terminals joined : List (ℕ × ℤ)) : Type 0 where
  pub sound : (number : ℕ) (length : ℤ) → In {X = ℕ × ℤ} (number, length) joined → length_told numbers terminals number ≡ Some length
  pub whole : (number : ℕ) (length : ℤ) → length_told numbers terminals number ≡ Some length → In {X = ℕ × ℤ} (number, length) joined
  pub in_order : AllPairs (λ a b. a.0 < b.0) joined
