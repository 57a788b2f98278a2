use Rattle.vector_files.proofs.Common.{◌≡◌, ◌∙◌, sym, ap, zip, node_named, power_name, ground_name, is_either_node}
use Rattle.vector_files.proofs.Rails.{index_rails, index_like}
use Rattle.vector_files.proofs.nodes.NodeNames.of.Goals as goal

pub invariant_of-result : goal.invariant_of-result
invariant_of-result c = λ v.
    let names = c.in_ok-names.names in
    let nodes = c.in_ok-names.nodes.items in
    let known = zip names nodes in
    let at_power : c.node_at-power.result ≡ node_named known power_name = rw c.deref.ensures.value at c.node_at-power.ensures in
    let at_ground : c.node_at-ground.result ≡ node_named known ground_name = rw c.deref-2.ensures.value at c.node_at-ground.ensures in
    index_rails names nodes c.args.named.now c.requires c.in_ok-names.ensures v
    ∙ (ap (λ found. is_either_node found (node_named known ground_name) v) (sym at_power)
    ∙ ap (λ found. is_either_node c.node_at-power.result found v) (sym at_ground))

pub returns : goal.returns
returns c = index_like c.in_ok-names.names c.in_ok-names.nodes.items c.args.named.now c.requires c.in_ok-names.ensures
