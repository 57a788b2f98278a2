use Rattle.cif_expansion.proofs.Common.{◌≡◌, ℕ, [], length, list_at}
use Rattle.cif_expansion.proofs.drawing.empty_lists.Given as goal

abbrev pub invariant-loop : goal.invariant-loop
invariant-loop g l = record {
  so_many : length l.lists.items ≡ l.counter;
  empty : (place : ℕ) → list_at l.lists.items place ≡ [];
}
