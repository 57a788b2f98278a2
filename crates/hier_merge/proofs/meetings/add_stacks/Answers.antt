use Rattle.hier_merge.proofs.Common.{◌≡◌, List, [], ◌∷◌, ◌++◌, length, map, sym, ap, ◌∙◌, arith, append-nil, append_assoc, map-append}
use Rattle.hier_merge.proofs.Common.{nil_from_length, into_iter_items, PlaneStack, TypedStack, plane_stack}
use Rattle.hier_merge.proofs.meetings.add_stacks.Goals as goal

pub loop-stack-init : goal.loop-stack-init
loop-stack-init c =
    let gives = c.into_iter-stack-iterator.ensures.into_iter_gives in
    record {
      rest = gives.0;
      count = omega (arith, gives.1, ap (λ (l : List TypedStack). length l) gives.0, c.args.found.ok.0);
      added = c.in_ok-reserve.ensures.items ∙ sym (append-nil c.args.stacks.now.items);
    }

pub loop-stack-preserved : goal.loop-stack-preserved
loop-stack-preserved c =
    let so_far = c.loop-stack.invariant in
    let steps = c.in-Some.ensures.steps in
    let stack = c.in-Some.stack in
    let plane = c.args.plane in
    let yielded = c.loop-stack.yielded in
    let to_come : List TypedStack = into_iter_items c.next.new.self in
    record {
      rest = append_assoc yielded (stack ∷ []) to_come ∙ ap (λ (rest : List TypedStack). yielded ++ rest) (sym steps.0) ∙ so_far.rest;
      count = omega (arith, steps.1, ap (λ (l : List TypedStack). length l) steps.0, so_far.count);
      added = c.in_ok-push.ensures.items
          ∙ ap (λ (stacks : List PlaneStack). stacks ++ plane_stack plane stack ∷ []) so_far.added
          ∙ append_assoc c.args.stacks.now.items (map (plane_stack plane) yielded) (plane_stack plane stack ∷ [])
          ∙ ap (λ (more : List PlaneStack). c.args.stacks.now.items ++ more) (sym (map-append (plane_stack plane) yielded (stack ∷ [])));
    }

pub returns : goal.returns
returns c =
    let so_far = c.loop-stack.invariant in
    let plane = c.args.plane in
    let yielded = c.loop-stack.yielded in
    let left : List TypedStack = into_iter_items c.loop-stack.stack-iterator in
    let none : left ≡ [] = nil_from_length left (sym so_far.count ∙ c.in-None.ensures.steps.0) in
    let all : yielded ≡ c.args.found.items = sym (append-nil yielded) ∙ ap (λ (rest : List TypedStack). yielded ++ rest) (sym none) ∙ so_far.rest in
    so_far.added ∙ ap (λ (done : List TypedStack). c.args.stacks.now.items ++ map (plane_stack plane) done) all
