use Rattle.names.proofs.Common.{◌≡◌, ◌<◌, ℕ, [], length, get_or, Vec, Global}
use Rattle.names.proofs.groups.empty_groups.Given as goal

abbrev pub invariant-loop : goal.invariant-loop
invariant-loop l = record {
  so_many : length l.groups.items ≡ l.counter;
  empty : (k : ℕ) (d : Vec ℕ Global) → k < l.counter → (get_or l.groups.items k d).items ≡ [];
}
