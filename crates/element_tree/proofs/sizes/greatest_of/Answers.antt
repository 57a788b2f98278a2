use Rattle.element_tree.proofs.Common.{◌≡◌, get_or, max, ◌∙◌, ap, arith, sym, common_steps, get_or_default, value_at}
use Rattle.element_tree.proofs.Measures.{greatest_more}
use Rattle.element_tree.proofs.sizes.greatest_of.Goals as goal

pub loop-child-preserved : goal.loop-child-preserved
loop-child-preserved c =
    let values = c.args.values.now in
    let child = get_or c.args.children.now c.loop-child.child-index 0 in
    let more = greatest_more (value_at values) c.args.children.now c.loop-child.child-index c.loop-child-test.true in
    let same = get_or_default values child 0 1 (c.requires.within c.loop-child.child-index 0 c.loop-child-test.true) in
    let greater : c.max-greatest.result ≡ max c.loop-child.greatest (get_or values child 0) = grind (arith, common_steps) in
    greater ∙ ap (λ z. max z (get_or values child 0)) c.loop-child.invariant ∙ ap (max _) same ∙ sym more
