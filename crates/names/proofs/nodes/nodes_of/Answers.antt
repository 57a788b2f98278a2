use Rattle.names.proofs.Common.{◌<◌, List, ℕ, Vec, Global, length, sym, subst, All, IfOk-weaker, NamedNode, AreGroupsBy, AreNodesOn, AreNodesOf}
use Rattle.names.proofs.Common.{region_key, label_key}
use Rattle.names.proofs.GroupLaws.{members_below}
use Rattle.names.proofs.NodeLists.{nodes_of_classes}
use Rattle.names.proofs.nodes.nodes_of.Goals as goal

pub nodes_on-requires-clause-within : goal.nodes_on-requires-clause-within
nodes_on-requires-clause-within c =
    let InLabels = λ (group : Vec ℕ Global). All (λ index. index < length c.args.labels.now) group.items in
    subst (All InLabels) (sym c.as_slice-2.ensures.value)
    (members_below (label_key c.as_slice-classes.result.now c.args.named.now) (length c.args.named.now) (length c.args.labels.now) c.args.labelling.now.count
    c.in_ok-indices.indices.items c.requires.so_many c.in_ok-indices.ensures)

pub returns : goal.returns
returns c =
    let raw = c.args.tech.now in
    let labels = c.args.labels.now in
    let firsts = c.args.firsts.now in
    let classes = c.args.labelling.now.labels.items in
    let slice = c.as_slice-classes.result.now in
    let is = c.as_slice-classes.ensures.value in
    let named = c.args.named.now in
    let count = c.args.labelling.now.count in
    let regions = c.in_ok-regions.regions.items in
    let indices = c.in_ok-indices.indices.items in
    let by_region = subst (λ (v : List ℕ). AreGroupsBy (region_key v) (length v) count regions) is c.in_ok-regions.ensures in
    let by_label = subst (λ (v : List ℕ). AreGroupsBy (label_key v named) (length named) count indices) is c.in_ok-indices.ensures in
    IfOk-weaker c.nodes_on.result (λ (v : Vec NamedNode Global). AreNodesOn raw labels firsts slice c.as_slice.result.now c.as_slice-2.result.now v.items)
    (λ v. AreNodesOf raw labels classes named firsts v.items)
    (λ v are. nodes_of_classes raw labels firsts classes named count regions indices v.items c.requires.class_in c.requires.region_in by_region by_label
    (subst (λ (u : List ℕ). AreNodesOn raw labels firsts u regions indices v.items) is
    (subst (λ (u : List (Vec ℕ Global)). AreNodesOn raw labels firsts slice u indices v.items) c.as_slice.ensures.value
    (subst (λ (u : List (Vec ℕ Global)). AreNodesOn raw labels firsts slice c.as_slice.result.now u v.items) c.as_slice-2.ensures.value are))))
    c.nodes_on.ensures
