use Rattle.vector_runs.proofs.Common.{ℕ, subst, sym, NameNodesBelow, network_of, standing}
use Rattle.std.proofs.Common.{rules}
use Rattle.vector_runs.proofs.RunningLines.{run_told}
use Rattle.vector_runs.proofs.runs.run_from_start.Goals as goal

pub invariant_of-named : goal.invariant_of-named
invariant_of-named c =
    let named = c.args.named.now in
    record {
      named_within = subst (λ (nodes : ℕ). NameNodesBelow nodes named.names) (sym c.run_lines.ensures.nodes) named.named_within;
      one_node = named.one_node;
    }

pub returns-clause-run : goal.returns-clause-run
returns-clause-run c =
    let named = c.args.named.now in
    run_told (network_of named.net) named.names c.args.budget c.args.vectors.now c.in_ok-start_states.field-0.items c.items.result.now
    (standing c.run_lines.new.net c.run_lines.new.self) c.args.replies.now.items c.run_lines.new.replies.items c.in_ok-start_states.ensures
    c.items.ensures (search rules)
