use Rattle.vector_runs.proofs.Common.{subst, sym, NameOneNodeEach}
use Rattle.vector_runs.proofs.RailStates.{rails_known, rails_named, rails_below}
use Rattle.vector_runs.proofs.rails.rails_of.Goals as goal

pub node_named-requires : goal.node_named-requires
node_named-requires c = subst NameOneNodeEach (sym c.items-names.ensures) c.args.named.now.one_node

pub node_named-requires-2 : goal.node_named-requires-2
node_named-requires-2 c = subst NameOneNodeEach (sym c.items-names.ensures) c.args.named.now.one_node

pub returns-clause-are : goal.returns-clause-are
returns-clause-are c =
    rails_named c.args.named.now.names c.items-names.result.now _ c.items-names.ensures c.node_named.ensures c.node_named-2.ensures

pub returns-clause-below : goal.returns-clause-below
returns-clause-below c =
    rails_below c.args.named.now.net.nodes c.args.named.now.names c.items-names.result.now _ c.args.named.now.named_within
    c.items-names.ensures c.node_named.ensures c.node_named-2.ensures

pub returns-clause-known : goal.returns-clause-known
returns-clause-known c =
    rails_known c.args.named.now.names c.args.named.now.one_node _
    (rails_named c.args.named.now.names c.items-names.result.now _ c.items-names.ensures c.node_named.ensures c.node_named-2.ensures)
