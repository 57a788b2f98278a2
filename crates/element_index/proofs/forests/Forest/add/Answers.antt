use Rattle.element_index.proofs.Common.{◌≡◌, ◌<◌, ◌-◌, List, [], ◌∷◌, ◌++◌, length, take, drop, ap, ◌∙◌, arith, Rect, rects_of}
use Rattle.std.proofs.lemmas.List.{take_more_set}
use Rattle.element_index.proofs.ForestLaws.{rects_of-joined, rest_of}
use Rattle.element_index.proofs.forests.Forest.add.Goals as goal

pub returns-then-first-len-clause-added : goal.returns-then-first-len-clause-added
returns-then-first-len-clause-added c =
    let trees = c.self.inside.trees.items in
    let first = c.first_joined-first.result in
    let tree = c.in_ok-tree.tree in
    let rect = c.args.rect in
    let below : first < length trees = omega (arith, c.if-first-len.true, c.len.ensures, c.deref.ensures.len, ap length c.deref.ensures.value) in
    let is : tree ≡ rects_of (drop first trees) ++ rect ∷ [] =
    c.in_ok-tree.ensures
    ∙ ap (λ (ts : List (List Rect)). rects_of (take (length ts - first) (drop first ts)) ++ rect ∷ []) c.deref-2.ensures.value
    ∙ ap (λ (ts : List (List Rect)). rects_of ts ++ rect ∷ []) (rest_of trees first) in
    ap rects_of (c.truncate.ensures.items ∙ take_more_set trees first tree below) ∙ rects_of-joined trees first tree rect is
    ∙ ap (λ (rects : List Rect). rects ++ rect ∷ []) c.self.view_is
