use Rattle.element_tree.proofs.Common.{◌≡◌, length, ◌-◌, refl, sym, ◌∙◌, ap, subst, arith, inr, reverse, [], ◌∷◌, ◌++◌, get_or, set, New, Open}
use Rattle.element_tree.proofs.Common.{IsUnderWay}
use Rattle.std.proofs.Common.{vec_len}
use Rattle.std.specs.Option.{option_to_list}
use Rattle.element_tree.proofs.WalkLaws.{started}
use Rattle.element_tree.proofs.Turns.{IsTurn, top_from, some_top, get_or-replicate_same, top_within, child_within, next_at, marked}
use Rattle.element_tree.proofs.Turns.{turn_nowhere, turn_cycle, turn_done, turn_new, turn_over, falls_taken, falls_done}
use Rattle.element_tree.proofs.walks.walk.Goals as goal
use Rattle.element_tree.proofs.walks.walk.Goals.{In-Some}

innermost : (c : In-Some)
    → IsTurn c.args.graph.now c.args.root c.loop-cell.marks.items c.loop-cell.next.items c.loop-cell.open.items (reverse c.loop-cell.order.items)
    c.in-Some.field-0.now
innermost c = record { way = c.loop-cell.invariant; top = top_from c.deref.ensures.value c.in-Some.ensures.value }

pub index-at-requires : goal.index-at-requires
index-at-requires c =
    let a = top_within (innermost (goal.at.index-at-requires c).In-Some) in let b = c.loop-cell.invariant.long_next in omega arith

pub step_at-requires : goal.step_at-requires
step_at-requires c = top_within (innermost (goal.at.step_at-requires c).In-Some)

pub returns-in-Nowhere-clause-fault : goal.returns-in-Nowhere-clause-fault
returns-in-Nowhere-clause-fault c =
    let turn = innermost (goal.at.returns-in-Nowhere-clause-fault c).In-Some in
    inr (turn_nowhere turn (next_at turn c.index-at.ensures) (sym c.step_at.ensures.step ∙ c.in-Nowhere.is))

pub overflow_add-at : goal.overflow_add-at
overflow_add-at c =
    let child = c.in-To.child in
    let a = c.step_at.ensures.short child c.in-To.is in omega arith

pub index-requires : goal.index-requires
index-requires c =
    let turn = innermost (goal.at.index-requires c).In-Some in
    let a = child_within turn c.index-at.result.now c.requires.graph (sym c.step_at.ensures.step ∙ c.in-To.is) in
    let b = c.loop-cell.invariant.long in omega arith

pub index_mut-requires-in-New : goal.index_mut-requires-in-New
index_mut-requires-in-New c =
    let turn = innermost (goal.at.index_mut-requires-in-New c).In-Some in
    let a = child_within turn c.index-at.result.now c.requires.graph (sym c.step_at.ensures.step ∙ c.in-To.is) in
    let b = c.loop-cell.invariant.long in omega arith

pub index_mut-requires-in-Over : goal.index_mut-requires-in-Over
index_mut-requires-in-Over c =
    let a = top_within (innermost (goal.at.index_mut-requires-in-Over c).In-Some) in let b = c.loop-cell.invariant.long in omega arith

pub returns-in-Open-clause-fault : goal.returns-in-Open-clause-fault
returns-in-Open-clause-fault c =
    let turn = innermost (goal.at.returns-in-Open-clause-fault c).In-Some in
    let here = next_at turn c.index-at.ensures in
    let step = sym c.step_at.ensures.step ∙ c.in-To.is in
    inr (turn_cycle turn here step (marked turn here step c.requires.graph c.index.ensures ∙ c.in-Open.is))

pub loop-cell-preserved-in-Done : goal.loop-cell-preserved-in-Done
loop-cell-preserved-in-Done c =
    let turn = innermost (goal.at.loop-cell-preserved-in-Done c).In-Some in
    let here = next_at turn c.index-at.ensures in
    let step = sym c.step_at.ensures.step ∙ c.in-To.is in
    turn_done turn here step (marked turn here step c.requires.graph c.index.ensures ∙ c.in-Done.is)

pub loop-cell-preserved-in-Continue-branch-4 : goal.loop-cell-preserved-in-Continue-branch-4
loop-cell-preserved-in-Continue-branch-4 c =
    let turn = innermost (goal.at.loop-cell-preserved-in-Continue-branch-4 c).In-Some in
    let here = next_at turn c.index-at.ensures in
    let step = sym c.step_at.ensures.step ∙ c.in-To.is in
    turn_new turn here step c.requires.graph (marked turn here step c.requires.graph c.index.ensures ∙ c.in-New.is) c.in_ok-push-in-New.ensures.items

pub loop-cell-preserved : goal.loop-cell-preserved
loop-cell-preserved c =
    let turn = innermost (goal.at.loop-cell-preserved c).In-Some in
    turn_over turn (next_at turn c.index-at.ensures) c.pop.new.self.items c.loop-cell.order.items refl (sym c.step_at.ensures.step ∙ c.in-Over.is)
    (get_or c.loop-cell.open.items (vec_len c.loop-cell.open - 1) 0)
    (c.pop.ensures.items ∙ ap (λ r. c.pop.new.self.items ++ option_to_list r)
    (c.pop.ensures.value 0 (let k = some_top c.loop-cell.open.items c.in-Some.field-0.now turn.top in omega arith)))
    c.in_ok-push-in-Over.ensures.items

pub loop-cell-smaller-in-Done : goal.loop-cell-smaller-in-Done
loop-cell-smaller-in-Done c =
    let turn = innermost (goal.at.loop-cell-smaller-in-Done c).In-Some in
    falls_taken turn (next_at turn c.index-at.ensures) (sym c.step_at.ensures.step ∙ c.in-To.is) (length c.args.graph.now - length c.loop-cell.order.items)

pub loop-cell-smaller-in-Continue-branch-4 : goal.loop-cell-smaller-in-Continue-branch-4
loop-cell-smaller-in-Continue-branch-4 c =
    let turn = innermost (goal.at.loop-cell-smaller-in-Continue-branch-4 c).In-Some in
    falls_taken turn (next_at turn c.index-at.ensures) (sym c.step_at.ensures.step ∙ c.in-To.is) (length c.args.graph.now - length c.loop-cell.order.items)

pub loop-cell-smaller : goal.loop-cell-smaller
loop-cell-smaller c =
    let less = falls_done c.loop-cell.order.items (innermost (goal.at.loop-cell-smaller c).In-Some) c.in_ok-push-in-Over.ensures.items in omega arith

pub loop-cell-init : goal.loop-cell-init
loop-cell-init c =
    let marks = c.in_ok-marks.ensures.items_if_clones_equal (λ y e. e) in
    let next = c.in_ok-next.ensures.items_if_clones_equal (λ y e. e) in
    let open_cells : reverse c.push.new.self.items ≡ c.args.root ∷ [] = ap reverse (c.in_ok-push.ensures.items ∙ ap (λ z. z ++
    (c.args.root ∷ [])) c.new-open.ensures.items) in
    let order : reverse c.new-order.result.items ≡ [] = ap reverse c.new-order.ensures.items in
    let start = started c.args.graph.now c.args.root c.in_ok-marks.marks.items c.in_ok-next.next.items c.requires.root
    (let k = c.in_ok-marks.ensures.len in omega arith) (let k = c.in_ok-next.ensures.len in omega arith)
    (λ x. ap (λ z. get_or z x New) marks ∙ get_or-replicate_same (length c.args.graph.now) New x)
    (λ x. ap (λ z. get_or z x 0) next ∙ get_or-replicate_same (length c.args.graph.now) 0 x) in
    subst (λ z. IsUnderWay c.args.graph.now c.args.root (set c.in_ok-marks.marks.items c.args.root Open) c.in_ok-next.next.items z
    (reverse c.new-order.result.items)) (sym open_cells)
    (subst (λ z. IsUnderWay c.args.graph.now c.args.root (set c.in_ok-marks.marks.items c.args.root Open) c.in_ok-next.next.items (c.args.root ∷ []) z)
    (sym order) start)
