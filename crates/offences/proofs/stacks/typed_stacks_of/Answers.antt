use Rattle.offences.proofs.Common.{◌≡◌, inl, List, [], ◌∷◌, ◌++◌, length, refl, sym, ap, subst, ◌∙◌, arith, append-nil, In, In-append_right, Stack}
use Rattle.offences.proofs.Common.{StandForAll}
use Rattle.std.proofs.lemmas.List.{append_assoc, nil_from_length}
use Rattle.std.specs.Vec.Iter.{into_iter_items}
use Rattle.offences.proofs.StackLaws.{members_within, no_typed_stacks, with_typed_stack}
use Rattle.offences.proofs.stacks.typed_stacks_of.Goals as goal

pub typed_stack_of-requires-clause-within : goal.typed_stack_of-requires-clause-within
typed_stack_of-requires-clause-within c =
    let stack = c.in-Some.stack in
    let to_come : List Stack = into_iter_items c.next.new.self in
    let all = ap (λ (rest : List Stack). c.loop-stack.yielded ++ rest) (sym c.in-Some.ensures.steps.0) ∙ c.loop-stack.invariant.rest in
    let listed : In stack c.args.stacks.items = subst (In stack) all (In-append_right stack c.loop-stack.yielded (stack ∷ to_come) (inl refl)) in
    members_within c.args.tiles.now stack (c.requires.stacks.each stack listed)

pub typed_stack_of-requires-clause-ascending : goal.typed_stack_of-requires-clause-ascending
typed_stack_of-requires-clause-ascending c =
    let stack = c.in-Some.stack in
    let to_come : List Stack = into_iter_items c.next.new.self in
    let all = ap (λ (rest : List Stack). c.loop-stack.yielded ++ rest) (sym c.in-Some.ensures.steps.0) ∙ c.loop-stack.invariant.rest in
    let listed : In stack c.args.stacks.items = subst (In stack) all (In-append_right stack c.loop-stack.yielded (stack ∷ to_come) (inl refl)) in
    (c.requires.stacks.each stack listed).ordered

pub loop-stack-init : goal.loop-stack-init
loop-stack-init c =
    let gives = c.into_iter-stack-iterator.ensures.into_iter_gives in
    record {
      rest = gives.0;
      count = omega (arith, gives.1, ap (λ (l : List Stack). length l) gives.0, c.args.stacks.ok.0);
      stand = no_typed_stacks c.args.tech.now c.args.plane c.args.tiles.now c.in_ok-typed_stacks.typed_stacks.items c.in_ok-typed_stacks.ensures.items;
    }

pub loop-stack-preserved : goal.loop-stack-preserved
loop-stack-preserved c =
    let so_far = c.loop-stack.invariant in
    let steps = c.in-Some.ensures.steps in
    let stack = c.in-Some.stack in
    let yielded = c.loop-stack.yielded in
    let to_come : List Stack = into_iter_items c.next.new.self in
    record {
      rest = append_assoc yielded (stack ∷ []) to_come ∙ ap (λ (rest : List Stack). yielded ++ rest) (sym steps.0) ∙ so_far.rest;
      count = omega (arith, steps.1, ap (λ (l : List Stack). length l) steps.0, so_far.count);
      stand = rw c.in_ok-push.ensures.items (with_typed_stack c.args.tech.now c.args.plane c.args.tiles.now yielded stack
          c.loop-stack.typed_stacks.items so_far.stand c.in_ok-typed_stack.typed_stack c.in_ok-typed_stack.ensures);
    }

pub returns : goal.returns
returns c =
    let so_far = c.loop-stack.invariant in
    let yielded = c.loop-stack.yielded in
    let left : List Stack = into_iter_items c.loop-stack.stack-iterator in
    let none : left ≡ [] = nil_from_length left (sym so_far.count ∙ c.in-None.ensures.steps.0) in
    let all : yielded ≡ c.args.stacks.items = sym (append-nil yielded) ∙ ap (λ (rest : List Stack). yielded ++ rest) (sym none) ∙ so_far.rest in
    subst (λ (stacks : List Stack). StandForAll c.args.tech.now c.args.plane c.args.tiles.now stacks c.loop-stack.typed_stacks.items) all so_far.stand
