use Rattle.flatten.proofs.Common.{◌≡◌, ℕ, List, length, ◌∙◌, subst, arith, AreNamedOf}
use Rattle.flatten.proofs.NodeLaws.{so_many}
use Rattle.flatten.proofs.FlatNodeLaws.{named_filled, flat_nodes_are}
use Rattle.flatten.proofs.circuits.flat_nodes.Goals as goal
use Rattle.flatten.proofs.circuits.flat_nodes.Goals.{In_ok-nodes}

-- the nodes have their names
named : (c : In_ok-nodes) → AreNamedOf c.args.names.now c.args.classes.now.labels c.args.classes.now.count c.in_ok-nodes.nodes.items
named c = subst (λ (l : List ℕ). AreNamedOf c.args.names.now l c.args.classes.now.count c.in_ok-nodes.nodes.items) c.items-labels.ensures
    c.in_ok-nodes.ensures.named

-- and each its sums
many : (c : In_ok-nodes) → length c.in_ok-sums.sums.items ≡ length c.in_ok-nodes.nodes.items
many c =
    let list = c.requires.names.list in
    let is_list = c.requires.names.is_list in
    omega (arith, (c.in_ok-sums.ensures list is_list).long, so_many (named c list is_list))

pub with_sums-requires : goal.with_sums-requires
with_sums-requires c = many (goal.at.with_sums-requires c).In_ok-nodes

pub returns-clause-nodes : goal.returns-clause-nodes
returns-clause-nodes c =
    let at = (goal.at.returns-clause-nodes c).In_ok-nodes in
    let list = c.requires.names.list in
    let is_list = c.requires.names.is_list in
    flat_nodes_are is_list (c.requires.classes.labels list is_list) (many at) c.with_sums.ensures
    (named_filled (many at) c.with_sums.ensures (named at list is_list)) c.in_ok-nodes.ensures.placed (c.in_ok-sums.ensures list is_list)

pub returns-clause-named : goal.returns-clause-named
returns-clause-named c list is_list =
    let at = (goal.at.returns-clause-named c).In_ok-nodes in
    named_filled (many at) c.with_sums.ensures (named at list is_list)

pub returns-clause-count : goal.returns-clause-count
returns-clause-count c =
    c.with_sums.ensures.long ∙ so_many (named (goal.at.returns-clause-count c).In_ok-nodes c.requires.names.list c.requires.names.is_list)
