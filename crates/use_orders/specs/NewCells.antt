-- The cells from a number on, which are new: their order, and those that are their own descendants.
use Rattle.std.specs.Prelude.{ℕ, ◌<◌, ◌≤◌, List, length}
use Rattle.finite_sets.specs.Least.{IsLeast}
use Rattle.finite_sets.specs.Lists.{Lists}
use Rattle.use_orders.specs.declared.new_order.Order.{Order}
use Rattle.use_orders.specs.declared.new_order.Order.TheVariants.{Acyclic, Cyclic}
use Rattle.use_orders.specs.Uses.{UsesNewCell, IsDescendant, AreBehindChildren}

-- a cell of the graph that is not below the first
abbrev pub IsNew : List (List ℕ) → ℕ → ℕ → Type 0
IsNew children first cell = (first ≤ cell) × (cell < length children)

-- uses of new cells lead from the cell down to itself
abbrev pub IsOwnDescendant : List (List ℕ) → ℕ → ℕ → Type 0
IsOwnDescendant children first cell = IsDescendant (UsesNewCell children first) cell cell

-- the list has each new cell once and nothing else, each behind its new children
pub record IsChildrenFirst (children : List (List ℕ)) (first : ℕ) (order : List ℕ) : Type 0 where
  pub each : Lists (IsNew children first) order
  pub behind : AreBehindChildren (UsesNewCell children first) order

-- an order of the new cells, or the least of those that are their own descendants
abbrev pub IsOrderOf : List (List ℕ) → ℕ → Order → Type 0
IsOrderOf children first (Acyclic order) = IsChildrenFirst children first order.items
IsOrderOf children first (Cyclic cell) = IsLeast ◌≤◌ (IsOwnDescendant children first) cell
