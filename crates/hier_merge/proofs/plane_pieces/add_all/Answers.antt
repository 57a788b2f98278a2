use Rattle.hier_merge.proofs.Common.{◌≡◌, ◌<◌, ℕ, List, [], ◌∷◌, ◌++◌, length, map, inl, refl, sym, ap, subst, ◌∙◌, arith, All, append-nil}
use Rattle.hier_merge.proofs.Common.{append_assoc, map-append, nil_from_length, into_iter_items, In, In-append_right, All-In, TypedStack, renumbered}
use Rattle.hier_merge.proofs.plane_pieces.add_all.Goals as goal

pub loop-stack-init : goal.loop-stack-init
loop-stack-init c =
    let gives = c.into_iter-stack-iterator.ensures.into_iter_gives in
    record {
      rest = gives.0;
      count = omega (arith, gives.1, ap (λ (l : List TypedStack). length l) gives.0, c.args.found.ok.0);
      added = sym (append-nil c.args.stacks.now.items);
    }

pub with_numbers-requires : goal.with_numbers-requires
with_numbers-requires c =
    let yielded = c.loop-stack.yielded in
    let stack = c.in-Some.stack in
    let to_come : List TypedStack = into_iter_items c.next.new.self in
    let all : yielded ++ stack ∷ to_come ≡ c.args.found.items =
    ap (λ (rest : List TypedStack). yielded ++ rest) (sym c.in-Some.ensures.steps.0) ∙ c.loop-stack.invariant.rest in
    All-In (λ (s : TypedStack). All (λ (member : ℕ). member < length c.args.numbers.now) s.members) c.args.found.items stack c.requires
    (subst (λ (list : List TypedStack). In stack list) all (In-append_right stack yielded (stack ∷ to_come) (inl refl)))

pub loop-stack-preserved : goal.loop-stack-preserved
loop-stack-preserved c =
    let so_far = c.loop-stack.invariant in
    let steps = c.in-Some.ensures.steps in
    let stack = c.in-Some.stack in
    let yielded = c.loop-stack.yielded in
    let made = renumbered c.args.numbers.now in
    let to_come : List TypedStack = into_iter_items c.next.new.self in
    record {
      rest = append_assoc yielded (stack ∷ []) to_come ∙ ap (λ (rest : List TypedStack). yielded ++ rest) (sym steps.0) ∙ so_far.rest;
      count = omega (arith, steps.1, ap (λ (l : List TypedStack). length l) steps.0, so_far.count);
      added = c.in_ok-push.ensures.items
          ∙ ap (λ (stacks : List TypedStack). stacks ++ c.in_ok-numbered.numbered ∷ []) so_far.added
          ∙ append_assoc c.args.stacks.now.items (map made yielded) (c.in_ok-numbered.numbered ∷ [])
          ∙ ap (λ (one : TypedStack). c.args.stacks.now.items ++ (map made yielded ++ one ∷ [])) c.in_ok-numbered.ensures
          ∙ ap (λ (done : List TypedStack). c.args.stacks.now.items ++ done) (sym (map-append made yielded (stack ∷ [])));
    }

pub returns : goal.returns
returns c =
    let so_far = c.loop-stack.invariant in
    let yielded = c.loop-stack.yielded in
    let left : List TypedStack = into_iter_items c.loop-stack.stack-iterator in
    let none : left ≡ [] = nil_from_length left (sym so_far.count ∙ c.in-None.ensures.steps.0) in
    let all : yielded ≡ c.args.found.items = sym (append-nil yielded) ∙ ap (λ (rest : List TypedStack). yielded ++ rest) (sym none) ∙ so_far.rest in
    so_far.added ∙ ap (λ (done : List TypedStack). c.args.stacks.now.items ++ map (renumbered c.args.numbers.now) done) all
