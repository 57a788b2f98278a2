-- Orders of cells in which each comes after all that use it.
use Rattle.std.specs.Prelude.{◌≡◌, ◌≢◌, ◌⊎◌, ℕ, suc, ◌+◌, ◌-◌, ◌<◌, ◌≤◌, Bool, true, false, List, [], ◌∷◌, length, slice_index_or, Contains}
use Rattle.geo_core.specs.FiniteSets.Chain.{Chain}
use Rattle.cell_tree.specs.declared.cells.TreeCell.{TreeCell}
use Rattle.cell_tree.specs.declared.sizes.Size.{Size}
use Rattle.cell_tree.specs.declared.limits.TheConstants.{MOST_DEPTH}
use Rattle.cell_tree.specs.Sizes.{size_at}
use Rattle.cell_tree.specs.Cells.{users_of}

-- The lower cell knows the other as its user.
abbrev pub IsUserOf : List TreeCell → ℕ → ℕ → Type 0
IsUserOf cells lower user = Contains (users_of cells lower) user

-- The second cell is the first, or stands above it by a chain of known users.
abbrev pub IsReached : List TreeCell → ℕ → ℕ → Type 0
IsReached cells lower upper = Chain (IsUserOf cells) lower upper

-- the cell at a place of the order
abbrev pub at : List ℕ → ℕ → ℕ
at order place = slice_index_or order place 0

-- The cell stands in the order before this place.
pub record StandsBefore (order : List ℕ) (end key : ℕ) : Type 0 where
  pub place : ℕ
  pub before : place < end
  pub is : at order place ≡ key

abbrev pub StandsIn : List ℕ → ℕ → Type 0
StandsIn order key = StandsBefore order (length order) key

abbrev pub IsSeen : List Bool → ℕ → Type 0
IsSeen seen key = slice_index_or seen key false ≡ true

-- how many are not seen
abbrev pub unseen : List Bool → ℕ
unseen [] = 0
unseen (true ∷ rest) = unseen rest
unseen (false ∷ rest) = suc (unseen rest)

-- Each cell comes after all that use it.
abbrev pub ComesAfterUsers : List TreeCell → List ℕ → Type 0
ComesAfterUsers cells order =
    (place : ℕ) → place < length order → (user : ℕ) → IsUserOf cells (at order place) user → StandsBefore order place user

-- Users are cells, and stand higher, in a rank that has a limit.
pub record IsRanked (cells : List TreeCell) (sizes : List Size) : Type 0 where
  pub within : (key user : ℕ) → IsUserOf cells key user → user < length sizes
  pub rises : (key user : ℕ) → IsUserOf cells key user → (size_at sizes key).depth < (size_at sizes user).depth
  pub most : (key : ℕ) → (size_at sizes key).depth ≤ MOST_DEPTH

-- Each cell that is seen stands in the order, but for some of a lower rank than this.
abbrev pub AllStandBut : List Size → ℕ → List Bool → List ℕ → Type 0
AllStandBut sizes rank seen order =
    (key : ℕ) → IsSeen seen key → (StandsIn order key) ⊎ ((size_at sizes key).depth < rank)

-- What a search above a cell adds to an order: the cell is among it, all of it is above the cell, was not seen before and is
-- seen now, and nothing else is.
pub record Adds (cells : List TreeCell) (cell : ℕ) (seen seen' : List Bool) (order order' : List ℕ) : Type 0 where
  pub longer : length order ≤ length order'
  pub kept : (place : ℕ) → place < length order → at order' place ≡ at order place
  pub above : (place : ℕ) → length order ≤ place → place < length order' → IsReached cells cell (at order' place)
  pub fresh : (place : ℕ) → length order ≤ place → place < length order' → slice_index_or seen (at order' place) false ≡ false
  pub marked : (place : ℕ) → length order ≤ place → place < length order' → IsSeen seen' (at order' place)
  pub still : (key : ℕ) → IsSeen seen key → IsSeen seen' key
  pub only : (key : ℕ) → IsSeen seen' key → (IsSeen seen key) ⊎ (StandsIn order' key)
  pub once : (p q : ℕ) → length order ≤ p → p < q → q < length order' → at order' p ≢ at order' q

-- The order was made longer, its last is the cell, and no other that was added is.
pub record EndsWith (cell : ℕ) (order order' : List ℕ) : Type 0 where
  pub more : length order < length order'
  pub is : at order' (length order' - 1) ≡ cell
  pub alone : (place : ℕ) → length order ≤ place → place + 1 < length order' → at order' place ≢ cell
