use Rattle.cell_tree.proofs.Common.{◌≡◌, ℕ, size_at}
use Rattle.cell_tree.proofs.MarkLaws.{StandsFrom}
use Rattle.cell_tree.proofs.size_books.copy_sizes.Given as goal

abbrev pub invariant-loop-key : goal.invariant-loop-key
invariant-loop-key l = (key : ℕ) → (StandsFrom l.order l.key-index key → ⊥) → size_at l.to key ≡ size_at l.from key
