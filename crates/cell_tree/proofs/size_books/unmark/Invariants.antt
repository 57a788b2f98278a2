use Rattle.cell_tree.proofs.Common.{ℕ, IsSeen}
use Rattle.cell_tree.proofs.MarkLaws.{StandsFrom}
use Rattle.cell_tree.proofs.size_books.unmark.Given as goal

abbrev pub invariant-loop-key : goal.invariant-loop-key
invariant-loop-key l = (key : ℕ) → IsSeen l.seen key → StandsFrom l.order l.key-index key
