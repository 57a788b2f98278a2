use Rattle.vector_runs.proofs.Common.{ℕ, subst, sym, NameNodesBelow}
use Rattle.vector_runs.proofs.rails.make_fresh.Goals as goal

pub invariant_of-named : goal.invariant_of-named
invariant_of-named c =
    let named = c.args.named.now in
    record {
      named_within = subst (λ (nodes : ℕ). NameNodesBelow nodes named.names) (sym c.make_net_fresh.ensures.nodes) named.named_within;
      one_node = named.one_node;
    }
