use Rattle.cell_tree.proofs.Common.{◌≡◌, ℕ, ◌<◌, List, UseBody}
use Rattle.std.specs.Prelude.{slice_get, Some}
use Rattle.cell_tree.proofs.use_tables.UseTable.has_child.Given as goal

abbrev pub invariant-loop-k : goal.invariant-loop-k
invariant-loop-k l =
    (j : ℕ) (entry : List ℕ × UseBody) → j < l.k → slice_get l.self.entries j ≡ Some entry → entry.1.child.0 ≡ l.child → ⊥
