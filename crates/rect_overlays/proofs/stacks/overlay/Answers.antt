use Rattle.rect_overlays.proofs.Common.{◌≡◌, ◌<◌, ℕ, List, [], length, refl, sym, ◌∙◌, subst, All, Region, AllMeet, AllGoRound, AreApart}
use Rattle.rect_overlays.proofs.Common.{AddsSingles, CutsInTwo, IsMade, IsSplit, IsSplitWith}
use Rattle.rect_overlays.proofs.Lists.{none_left}
use Rattle.rect_overlays.proofs.Held.{nothing_held}
use Rattle.rect_overlays.proofs.Splitting.{split_begins, split_ends}
use Rattle.rect_overlays.proofs.Turns.{taken_off}
use Rattle.rect_overlays.proofs.stacks.overlay.Goals as goal

pub loop-span-init : goal.loop-span-init
loop-span-init c =
    let begins = c.in_ok-regions.ensures in (
      begins.0,
      (
        begins.1.0,
        subst (IsSplit c.args.rects.now begins.0) (sym c.new-stacks.ensures.items)
            (split_begins c.args.rects.now begins.0 begins.1.1),
      ),
    )

pub lie_apart-requires : goal.lie_apart-requires
lie_apart-requires c =
    subst (All (λ member. member < length c.args.rects.now)) (sym c.as_slice-members.ensures.value)
    (taken_off c.args.rects.now c.loop-span.regions c.pop.new.self c.move_last.new.members c.in-Some.span
    c.move_last.new.taken.items c.loop-span.stacks.items c.loop-span.invariant c.in-Some.ensures.items c.in_ok-move_last.ensures.taken
    c.in_ok-move_last.ensures.rest).within

pub push_singles-requires : goal.push_singles-requires
push_singles-requires c =
    subst (All (λ member. member < length c.args.rects.now)) (sym c.as_slice-members.ensures.value)
    (taken_off c.args.rects.now c.loop-span.regions c.pop.new.self c.move_last.new.members c.in-Some.span
    c.move_last.new.taken.items c.loop-span.stacks.items c.loop-span.invariant c.in-Some.ensures.items c.in_ok-move_last.ensures.taken
    c.in_ok-move_last.ensures.rest).within

pub next_cut-requires-clause-within : goal.next_cut-requires-clause-within
next_cut-requires-clause-within c =
    subst (All (λ member. member < length c.args.rects.now)) (sym c.as_slice-members.ensures.value)
    (taken_off c.args.rects.now c.loop-span.regions c.pop.new.self c.move_last.new.members c.in-Some.span
    c.move_last.new.taken.items c.loop-span.stacks.items c.loop-span.invariant c.in-Some.ensures.items c.in_ok-move_last.ensures.taken
    c.in_ok-move_last.ensures.rest).within

pub next_cut-requires-clause-meet : goal.next_cut-requires-clause-meet
next_cut-requires-clause-meet c =
    subst (AllMeet c.args.rects.now c.in-Some.span.area) (sym c.as_slice-members.ensures.value)
    (taken_off c.args.rects.now c.loop-span.regions c.pop.new.self c.move_last.new.members c.in-Some.span
    c.move_last.new.taken.items c.loop-span.stacks.items c.loop-span.invariant c.in-Some.ensures.items c.in_ok-move_last.ensures.taken
    c.in_ok-move_last.ensures.rest).is.meet

pub cut_in_two-requires-clause-within : goal.cut_in_two-requires-clause-within
cut_in_two-requires-clause-within c =
    subst (All (λ member. member < length c.args.rects.now)) (sym c.as_slice-members.ensures.value)
    (taken_off c.args.rects.now c.loop-span.regions c.pop.new.self c.move_last.new.members c.in-Some.span
    c.move_last.new.taken.items c.loop-span.stacks.items c.loop-span.invariant c.in-Some.ensures.items c.in_ok-move_last.ensures.taken
    c.in_ok-move_last.ensures.rest).within

pub cut_in_two-requires-clause-meet : goal.cut_in_two-requires-clause-meet
cut_in_two-requires-clause-meet c =
    subst (AllMeet c.args.rects.now c.in-Some.span.area) (sym c.as_slice-members.ensures.value)
    (taken_off c.args.rects.now c.loop-span.regions c.pop.new.self c.move_last.new.members c.in-Some.span
    c.move_last.new.taken.items c.loop-span.stacks.items c.loop-span.invariant c.in-Some.ensures.items c.in_ok-move_last.ensures.taken
    c.in_ok-move_last.ensures.rest).is.meet

pub cut_in_two-requires-clause-proper : goal.cut_in_two-requires-clause-proper
cut_in_two-requires-clause-proper c =
    (taken_off c.args.rects.now c.loop-span.regions c.pop.new.self c.move_last.new.members c.in-Some.span
    c.move_last.new.taken.items c.loop-span.stacks.items c.loop-span.invariant c.in-Some.ensures.items c.in_ok-move_last.ensures.taken
    c.in_ok-move_last.ensures.rest).is.proper

pub loop-span-smaller-in_ok-cut_in_two-in-Some-next_cut : goal.loop-span-smaller-in_ok-cut_in_two-in-Some-next_cut
loop-span-smaller-in_ok-cut_in_two-in-Some-next_cut c =
    (taken_off c.args.rects.now c.loop-span.regions c.pop.new.self c.move_last.new.members c.in-Some.span
    c.move_last.new.taken.items c.loop-span.stacks.items c.loop-span.invariant c.in-Some.ensures.items c.in_ok-move_last.ensures.taken
    c.in_ok-move_last.ensures.rest).cut_leaves_less
    c.in-Some-next_cut.cut c.cut_in_two.new.regions c.in-Some-next_cut.ensures.some
    (subst (λ (v : List ℕ). CutsInTwo c.args.rects.now (record { area = c.in-Some.span.area; members = v }) c.in-Some-next_cut.cut
    (record { spans = c.pop.new.self; members = c.move_last.new.members }) c.cut_in_two.new.regions) c.as_slice-members.ensures.value
    c.in_ok-cut_in_two-in-Some-next_cut.ensures)

pub loop-span-preserved-in_ok-cut_in_two-in-Some-next_cut : goal.loop-span-preserved-in_ok-cut_in_two-in-Some-next_cut
loop-span-preserved-in_ok-cut_in_two-in-Some-next_cut c =
    (taken_off c.args.rects.now c.loop-span.regions c.pop.new.self c.move_last.new.members c.in-Some.span
    c.move_last.new.taken.items c.loop-span.stacks.items c.loop-span.invariant c.in-Some.ensures.items c.in_ok-move_last.ensures.taken
    c.in_ok-move_last.ensures.rest).cut_splits
    c.in-Some-next_cut.cut c.cut_in_two.new.regions c.in-Some-next_cut.ensures.some
    (subst (λ (v : List ℕ). CutsInTwo c.args.rects.now (record { area = c.in-Some.span.area; members = v }) c.in-Some-next_cut.cut
    (record { spans = c.pop.new.self; members = c.move_last.new.members }) c.cut_in_two.new.regions) c.as_slice-members.ensures.value
    c.in_ok-cut_in_two-in-Some-next_cut.ensures)

pub loop-span-smaller-then-lie_apart : goal.loop-span-smaller-then-lie_apart
loop-span-smaller-then-lie_apart c =
    (taken_off c.args.rects.now c.loop-span.regions c.pop.new.self c.move_last.new.members c.in-Some.span
    c.move_last.new.taken.items c.loop-span.stacks.items c.loop-span.invariant c.in-Some.ensures.items c.in_ok-move_last.ensures.taken
    c.in_ok-move_last.ensures.rest).finish_leaves_less

pub loop-span-preserved-then-lie_apart : goal.loop-span-preserved-then-lie_apart
loop-span-preserved-then-lie_apart c =
    let rects = c.args.rects.now in
    let after = c.push_singles.new.stacks in
    let slice = c.as_slice-members.ensures.value in
    (taken_off c.args.rects.now c.loop-span.regions c.pop.new.self c.move_last.new.members c.in-Some.span
    c.move_last.new.taken.items c.loop-span.stacks.items c.loop-span.invariant c.in-Some.ensures.items c.in_ok-move_last.ensures.taken
    c.in_ok-move_last.ensures.rest).singles_split after.items
    (subst (AreApart rects) slice (c.if-lie_apart.ensures refl))
    (subst (λ (v : List ℕ). AddsSingles rects c.in-Some.span.area v c.loop-span.stacks.items after.items) slice c.in_ok-push_singles.ensures)

pub loop-span-smaller : goal.loop-span-smaller
loop-span-smaller c =
    (taken_off c.args.rects.now c.loop-span.regions c.pop.new.self c.move_last.new.members c.in-Some.span
    c.move_last.new.taken.items c.loop-span.stacks.items c.loop-span.invariant c.in-Some.ensures.items c.in_ok-move_last.ensures.taken
    c.in_ok-move_last.ensures.rest).finish_leaves_less

pub loop-span-preserved : goal.loop-span-preserved
loop-span-preserved c =
    let rects = c.args.rects.now in
    let area = c.in-Some.span.area in
    let slice = c.as_slice-members.ensures.value in
    let stack = c.in_ok-stack_of-in-None.field-0 in
    let made : IsMade rects (record { area = area; members = c.move_last.new.taken.items }) stack = record {
      area = c.in_ok-stack_of-in-None.ensures.area;
      members = c.in_ok-stack_of-in-None.ensures.members ∙ slice;
      around = subst (AllGoRound rects area) slice c.in-None.ensures.none;
    } in
    subst (IsSplitWith rects (record { spans = c.pop.new.self; members = c.move_last.new.members })) (sym c.in_ok-push-in-None.ensures.items)
    ((taken_off c.args.rects.now c.loop-span.regions c.pop.new.self c.move_last.new.members c.in-Some.span
    c.move_last.new.taken.items c.loop-span.stacks.items c.loop-span.invariant c.in-Some.ensures.items c.in_ok-move_last.ensures.taken
    c.in_ok-move_last.ensures.rest).finish_splits stack made)

pub returns : goal.returns
returns c =
    let held = c.loop-span.invariant in
    let none : c.loop-span.regions.spans.items ≡ [] =
    none_left c.loop-span.regions.spans.items _ c.in_default.ensures.variant.1 c.loop-span.regions.spans.ok.0 in
    split_ends c.args.rects.now c.loop-span.stacks.items
    (subst (λ (v : List Region). IsSplit c.args.rects.now v c.loop-span.stacks.items) (nothing_held held.0 (sym held.1.0.spans ∙ none))
    held.1.1)
