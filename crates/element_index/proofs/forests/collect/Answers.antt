use Rattle.element_index.proofs.Common.{List, ◌++◌, sym, ap, ◌∙◌, append_assoc, take, Rect, rects_of}
use Rattle.std.proofs.lemmas.List.{take_all}
use Rattle.element_index.proofs.ForestLaws.{rects_of-more}
use Rattle.element_index.proofs.forests.collect.Goals as goal

pub loop-tree-preserved : goal.loop-tree-preserved
loop-tree-preserved c =
    let trees = c.args.trees.now in
    let before = c.args.rects.now.items in
    let i = c.loop-tree.tree-index in
    let tree = c.tree-item.result in
    c.in_ok-extend_from_slice.ensures.items
    ∙ ap (λ (rects : List Rect). c.loop-tree.rects.items ++ rects) c.rects.ensures
    ∙ ap (λ (rects : List Rect). rects ++ tree) c.loop-tree.invariant
    ∙ append_assoc before (rects_of (take i trees)) tree
    ∙ ap (λ (rects : List Rect). before ++ rects) (sym (rects_of-more trees i tree c.loop-tree-test.true c.tree-item.is))

pub returns : goal.returns
returns c =
    let trees = c.args.trees.now in
    c.loop-tree.invariant
    ∙ ap (λ (all : List (List Rect)). c.args.rects.now.items ++ rects_of all) (take_all c.loop-tree.tree-index trees c.loop-tree-test.false)
