use Rattle.use_orders.proofs.Common.{◌≡◌, ◌≤◌, ◌<◌, ℕ, ◌⊎◌, slice_index, IfSome, IsSomeAnd, In}
use Rattle.std.proofs.Common.{Some}
use Rattle.use_orders.proofs.own_descendants.least_with.Given as goal

abbrev pub invariant-cells : goal.invariant-cells
invariant-cells l = record {
  kept : IfSome l.fn.known (λ old. IsSomeAnd l.least (λ new. new ≤ old));
  below : (k : ℕ) → k < l.cell-index → IsSomeAnd l.least (λ new. new ≤ slice_index l.cells k);
  source : IfSome l.least (λ new. (l.fn.known ≡ Some new) ⊎ In new l.cells);
}
