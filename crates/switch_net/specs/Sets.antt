-- Sets of nodes, as a mark for each node and a list of the marked ones.
use Rattle.std.specs.Prelude.{◌≡◌, ◌≢◌, ℕ, ◌<◌, List, Bool, true, false, count_by, length, slice_index, slice_index_or}

-- the node is marked
abbrev pub IsInside : List Bool → ℕ → Type 0
IsInside inside v = slice_index_or inside v false ≡ true

-- the node stands among the first of the list
abbrev pub IsAmong : List ℕ → ℕ → ℕ → Type 0
IsAmong nodes count v = (i : ℕ) × (i < count) × (slice_index nodes i ≡ v)

-- so many nodes are marked, and the first of the list are those, each once
pub record AreListed (inside : List Bool) (order : List ℕ) (count : ℕ) : Type 0 where
  pub room : length order ≡ length inside
  pub counted : count_by (λ b. b) inside ≡ count
  pub listed : (i : ℕ) → i < count → IsInside inside (slice_index order i)
  pub distinct : (i j : ℕ) → i < j → j < count → slice_index order i ≢ slice_index order j
  pub known : (v : ℕ) → IsInside inside v → ¬ ((i : ℕ) → i < count → slice_index order i ≢ v)
