use Rattle.sim_networks.proofs.Common.{List, ℕ, sym, subst, NameNodesBelow, NameOneNodeEach}
use Rattle.sim_networks.proofs.InputLaws.{one_node}
use Rattle.sim_networks.proofs.networks.named_net.Goals as goal

pub invariant_of-result : goal.invariant_of-result
invariant_of-result c =
    let nodes = c.in_ok-net.net.nodes in
    let same = sym c.in_ok-names.ensures in
    record {
      named_within = subst (λ (names : List (List ℕ × ℕ)). NameNodesBelow nodes names) same
          (λ name v has. (c.in_ok-net.ensures.stands name v has).1);
      one_node = subst NameOneNodeEach same (one_node c.args.table.now c.requires.table.is_table);
    }
