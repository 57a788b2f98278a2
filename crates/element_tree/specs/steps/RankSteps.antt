-- The steps in rank of branches, by the numbers of the branches in the order of their names.
use Rattle.std.specs.Prelude.{◌≡◌, ℕ, suc, ◌<◌, List, take, sum_by, slice_index_or}
use Rattle.element_tree.specs.declared.tree.Branch.{Branch}

-- the size of the child with a number
abbrev pub size_at : (ℕ → ℕ) → List ℕ → ℕ → ℕ
size_at size children number = size (slice_index_or children number 0)

-- Each of the first so many branches, in the order of the numbers, steps behind the elements of those before it.
abbrev pub HaveRankSteps : (ℕ → ℕ) → List ℕ → List ℕ → ℕ → List Branch → Type 0
HaveRankSteps size children numbers count branches =
    (place : ℕ) (none : Branch) → place < count
    → (slice_index_or branches (slice_index_or numbers place 0) none).rank_step ≡ suc (sum_by (size_at size children) (take place numbers))
