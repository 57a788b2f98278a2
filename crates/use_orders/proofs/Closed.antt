-- Whether each child is a cell.
use Rattle.use_orders.proofs.Common.{◌≡◌, ℕ, ◌+◌, ◌<◌, ◌≤◌, Bool, true, false, List, refl, subst, arith, length, slice_index, inl, inr, cases_eq}
use Rattle.use_orders.proofs.Common.{In-get_or, In-index, used_by, UsesCell, AreCells}
use Rattle.use_orders.proofs.Rings.{has_use}

-- all uses of a cell were looked at
pub uses_within : (children : List (List ℕ)) (parent place count : ℕ) → length (used_by children parent) ≤ place
    → ((k : ℕ) → k < place → slice_index (used_by children parent) k < count) → (child : ℕ) → UsesCell children parent child → child < count
uses_within children parent place count all within child u =
    let k = In-index child (used_by children parent) u in
    let P : ℕ → Type 0 = λ z. z < count in
    subst P (k.1.1 0) (within k.0 (omega (arith, k.1.0, all)))

-- a use of no cell was found
pub use_outside : (children : List (List ℕ)) (parent place child count : ℕ) → place < length (used_by children parent)
    → child ≡ slice_index (used_by children parent) place
    → count ≤ child → ((child : ℕ) → UsesCell children parent child → child < count) → ⊥
use_outside children parent place child count lt is out within =
    let k = within (slice_index (used_by children parent) place) (In-get_or (used_by children parent) place 0 lt) in omega (arith, k, is, out)

-- one parent more was looked at
pub cells_more : (children : List (List ℕ)) (at : ℕ) (uses : Bool) → (uses ≡ true → (child : ℕ) → UsesCell children at child → child < length children)
    → uses ≡ true → ((parent child : ℕ) → parent < at → UsesCell children parent child → child < length children)
    → (parent child : ℕ) → parent < at + 1 → UsesCell children parent child → child < length children
cells_more children at false here e below parent child lt u = absurd (let f : false ≡ true = e in cc)
cells_more children at true here e below parent child lt u = elim (cases_eq parent at) [
  | inl same ↦ here refl child (rw same at u)
  | inr other ↦ below parent child (omega arith) u
]

-- one parent has a use of no cell
pub cells_not : (children : List (List ℕ)) (at : ℕ) (uses : Bool) → (((child : ℕ) → UsesCell children at child → child < length children) → uses ≡ true)
    → uses ≡ false → AreCells children → ⊥
cells_not children at false here e are = let f : false ≡ true = here (are at) in cc
cells_not children at true here e are = let f : true ≡ false = e in cc

-- all parents were looked at
pub cells_all : (children : List (List ℕ)) (upto : ℕ) → length children ≤ upto
    → ((parent child : ℕ) → parent < upto → UsesCell children parent child → child < length children) → AreCells children
cells_all children upto all below parent child u = below parent child (omega (arith, has_use children parent child u, all)) u
