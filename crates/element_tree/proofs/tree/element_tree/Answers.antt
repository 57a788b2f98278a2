use Rattle.element_tree.proofs.Common.{◌≡◌, ◌++◌, subst, sym, ◌∙◌, ap, LONGEST_CHAIN, IsTreeOf, flats_below, AreBranches, HasRoom}
use Rattle.element_tree.specs.steps.Links.{links_of, top_flat}
use Rattle.element_tree.proofs.TreeLaws.{room_at_root, tree_is}
use Rattle.element_tree.proofs.tree.element_tree.Goals as goal

pub add_elements-requires : goal.add_elements-requires
add_elements-requires c =
    let branches = c.in_ok-branches.branches.items in
    let are : AreBranches c.args.exts.now c.args.graph.now.children c.args.graph.now.order c.in_ok-sizes.sizes.items branches =
    subst (λ z. AreBranches c.args.exts.now c.args.graph.now.children c.args.graph.now.order z branches) c.as_slice.ensures.value c.in_ok-branches.ensures in
    let room = room_at_root c.args.exts.now c.args.root c.args.graph.now c.in_ok-sizes.sizes.items branches c.requires.records c.requires.graph
    c.in_ok-sizes.ensures.sizes are in
    record {
      room = subst (HasRoom c.args.exts.now c.as_slice-rows.result.now LONGEST_CHAIN 0) (sym c.top_element.ensures)
          (subst (λ z. HasRoom c.args.exts.now z LONGEST_CHAIN 0 (top_flat c.args.root)) (sym c.as_slice-rows.ensures.value) room);
    }

pub returns-clause-tree : goal.returns-clause-tree
returns-clause-tree c =
    let exts = c.args.exts.now in
    let branches = c.in_ok-branches.branches.items in
    let are : AreBranches exts c.args.graph.now.children c.args.graph.now.order c.in_ok-sizes.sizes.items branches =
    subst (λ z. AreBranches exts c.args.graph.now.children c.args.graph.now.order z branches) c.as_slice.ensures.value c.in_ok-branches.ensures in
    let same : c.of.result ≡ branches = c.of.ensures in
    let flats : c.of-2.result ≡ flats_below LONGEST_CHAIN (links_of exts branches) 0 (top_flat c.args.root) =
    c.of-2.ensures ∙ c.in_ok-add_elements.ensures.added
    ∙ ap (λ z. z ++ flats_below LONGEST_CHAIN (links_of exts c.as_slice-rows.result.now) 0 c.top_element.result) c.in_ok-elements.ensures.items
    ∙ ap (λ z. flats_below LONGEST_CHAIN (links_of exts z) 0 c.top_element.result) c.as_slice-rows.ensures.value
    ∙ ap (flats_below LONGEST_CHAIN (links_of exts branches) 0) c.top_element.ensures in
    subst (λ z. IsTreeOf exts c.args.root (record { branches = z; elements = c.of-2.result })) (sym same)
    (tree_is exts c.args.root c.args.graph.now c.in_ok-sizes.sizes.items branches c.of-2.result c.requires.records c.requires.graph
    c.in_ok-sizes.ensures.sizes are flats)
