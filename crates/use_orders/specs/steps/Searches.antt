-- The search for the least cell that is its own descendant.
use Rattle.std.specs.Prelude.{◌≡◌, ℕ, ◌<◌, ◌≤◌, false, true, List, map, length, slice_index, Vec, Option, Some, IfSome, IsSomeAnd, ◌⊎◌}
use Rattle.finite_sets.specs.Chain.{Chain}
use Rattle.finite_sets.specs.Lists.{In, Lists}
use Rattle.std.specs.Global.{Global}
use Rattle.use_orders.specs.Uses.{used_by, UsesNewCell, AreBehindChildren}
use Rattle.use_orders.specs.NewCells.{IsNew, IsOwnDescendant}
use Rattle.use_orders.specs.steps.Walks.{WalkState, AreMutual, IsUpTo, IsAtRest, IsThorough}

-- the lists of a vector of vectors
abbrev pub lists_of : List (Vec ℕ Global) → List (List ℕ)
lists_of vectors = map (λ vector. vector.items) vectors

-- The order has each new cell once. Where uses lead from one cell down to another, the other stands no later than some cell from which and to
-- which uses lead from and to the one.
pub record IsWalkOrder (children : List (List ℕ)) (first : ℕ) (order : List ℕ) : Type 0 where
  pub each : Lists (IsNew children first) order
  pub up_to : (cell other : ℕ) → In cell order → Chain (UsesNewCell children first) cell other
      → (last : ℕ) × (AreMutual children first cell last × IsUpTo order other last)

-- All new cells were visited.
pub record HasWalked (children : List (List ℕ)) (first : ℕ) (s : WalkState) : Type 0 where
  pub order : IsWalkOrder children first s.order
  pub behind : s.is_cyclic ≡ false → AreBehindChildren (UsesNewCell children first) s.order
  pub cyclic : s.is_cyclic ≡ true → (cell : ℕ) × IsOwnDescendant children first cell

-- for each cell the new cells that use it, where it is new itself
pub record AreUsers (children : List (List ℕ)) (first : ℕ) (users : List (List ℕ)) : Type 0 where
  pub fits : length users ≡ length children
  pub there : (parent child : ℕ) → UsesNewCell children first parent child → In parent (used_by users child)
  pub back : (parent child : ℕ) → In parent (used_by users child) → UsesNewCell children first parent child

-- The cells from a place of the order on were visited by way of their users, and of the cells that this listed the least that is its own
-- descendant is known, if there is one.
pub record IsSearched (children users : List (List ℕ)) (first : ℕ) (order : List ℕ) (place : ℕ) (s : WalkState) (least : Option ℕ) : Type 0 where
  pub rest : IsAtRest users first s
  pub thorough : IsThorough users first s
  pub done : (i : ℕ) → place ≤ i → i < length order → In (slice_index order i) s.order
  pub own : IfSome least (IsOwnDescendant children first)
  pub covers : (cell : ℕ) → In cell s.order → IsOwnDescendant children first cell → IsSomeAnd least (λ known. known ≤ cell)

-- the cells that a visit of the cell listed are more than one, or the cell is one of its own users
abbrev pub IsRing : List (List ℕ) → ℕ → List ℕ → Type 0
IsRing users cell group = (1 < length group) ⊎ In cell (used_by users cell)

-- what was known of the least cell that is its own descendant, and then those of a ring, if they are one
pub record LowersLeast (users : List (List ℕ)) (cell : ℕ) (group : List ℕ) (known least : Option ℕ) : Type 0 where
  pub kept : IfSome known (λ old. IsSomeAnd least (λ new. new ≤ old))
  pub below : IsRing users cell group → (other : ℕ) → In other group → IsSomeAnd least (λ new. new ≤ other)
  pub source : IfSome least (λ new. (known ≡ Some new) ⊎ (IsRing users cell group × In new group))
