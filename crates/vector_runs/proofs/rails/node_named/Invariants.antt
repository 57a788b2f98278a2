use Rattle.vector_runs.proofs.Common.{ℕ, drop, HasName}
use Rattle.vector_runs.proofs.rails.node_named.Given as goal

abbrev pub invariant-loop-known : goal.invariant-loop-known
invariant-loop-known l = (v : ℕ) → HasName l.names v l.name → HasName (drop l.known-index l.names) v l.name
