use Rattle.cell_tree.proofs.Common.{◌≡◌, ℕ, ◌<◌, at, StandsIn, stamp_at}
use Rattle.cell_tree.proofs.size_books.raise_stamps.Given as goal

abbrev pub invariant-loop-key : goal.invariant-loop-key
invariant-loop-key l =
    ((place : ℕ) → place < l.key-index → stamp_at l.stamps (at l.order place) ≡ l.stamp)
    × ((key : ℕ) → (StandsIn l.order key → ⊥) → stamp_at l.stamps key ≡ stamp_at l.initial.stamps key)
