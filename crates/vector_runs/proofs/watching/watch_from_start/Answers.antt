use Rattle.vector_runs.proofs.Common.{ℕ, subst, sym, NameNodesBelow}
use Rattle.vector_runs.proofs.watching.watch_from_start.Goals as goal

pub invariant_of-named : goal.invariant_of-named
invariant_of-named c =
    let named = c.begin.new.named in
    record {
      named_within = subst (λ (nodes : ℕ). NameNodesBelow nodes named.names) (sym c.watch_lines.ensures.nodes) named.named_within;
      one_node = named.one_node;
    }
