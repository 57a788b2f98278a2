use Rattle.element_index.proofs.Common.{List, refl, subst, Rect, rects_of, MeetsSome}
use Rattle.element_index.proofs.ForestLaws.{tree_meets, found_meets, missed_all, misses_more}
use Rattle.element_index.proofs.forests.Forest.meets.Goals as goal

pub returns-then-is_some : goal.returns-then-is_some
returns-then-is_some c =
    let trees = c.deref-tree-items.result.now in
    let area = c.args.area in
    let meets = found_meets c.tree-item.result area c.some_meeting.result (cc) c.some_meeting.ensures.found in
    let met = tree_meets trees c.loop-tree.tree-index c.tree-item.result area c.loop-tree-test.true c.tree-item.is meets in
    let inside = subst (λ (ts : List (List Rect)). MeetsSome (rects_of ts) area) c.deref-tree-items.ensures.value met in
    ((λ _. subst (λ (rects : List Rect). MeetsSome rects area) c.self.view_is inside), (λ _. refl))

pub loop-tree-preserved : goal.loop-tree-preserved
loop-tree-preserved c =
    let misses = missed_all c.tree-item.result c.args.area c.some_meeting.result (cc) c.some_meeting.ensures.none in
    misses_more c.deref-tree-items.result.now c.loop-tree.tree-index c.tree-item.result c.args.area c.loop-tree-test.true c.tree-item.is
    c.loop-tree.invariant misses
