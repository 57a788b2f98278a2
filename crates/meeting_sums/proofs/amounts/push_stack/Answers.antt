-- Each entry adds its amount to what the entries before it added.
use Rattle.meeting_sums.proofs.Common.{◌≡◌, pos, ◌-ℤ◌, Bool, List, take, get_or, to_z, of_z, sym, ◌∙◌, subst, arith, w64, ints, take_more, take_all}
use Rattle.meeting_sums.proofs.Common.{class_of, PartKind, flat_kind, for_group, AddAmounts}
use Rattle.meeting_sums.proofs.AmountLaws.{gated, no_entry, stack_more}
use Rattle.meeting_sums.proofs.amounts.push_stack.Goals as goal

pub loop-entry-preserved : goal.loop-entry-preserved
loop-entry-preserved c =
    let contains = (class_of c.args.class.now).contains in
    let kinds = c.items-entry-items.result.now in
    let i = c.loop-entry.entry-index in
    let value = c.args.value in
    let flat = contains (flat_kind c.args.stack.now) in
    let test : PartKind → Bool = λ entry. contains entry.kind.0 in
    let here : to_z w64 (of_z w64 value) ≡ value = omega (arith, ints, c.ranges.value.sfits) in
    let minus : to_z w64 (of_z w64 (pos 0 -ℤ to_z w64 (of_z w64 value))) ≡ pos 0 -ℤ value = rw here (let some = c.requires in
    omega (arith, ints, c.ranges.value.sfits, some)) in
    let so_far = rw here at c.loop-entry.invariant in
    rw here (subst (λ (v : List PartKind). AddAmounts (λ key. c.args.group ≡ key) (λ key. for_group c.args.group key (gated flat test v value))
    c.args.amounts.now.items c.push_if-in-loop-entry.new.amounts.items)
    (sym (take_more kinds i no_entry c.loop-entry-test.true))
    (stack_more c.args.group flat test (take i kinds) (get_or kinds i no_entry) value _ c.is_of.result c.args.amounts.now.items c.loop-entry.amounts.items
    c.push_if-in-loop-entry.new.amounts.items minus c.is_of.ensures so_far c.in_ok-push_if-2.ensures))

pub returns : goal.returns
returns c =
    let contains = (class_of c.args.class.now).contains in
    let flat = contains (flat_kind c.args.stack.now) in
    let test : PartKind → Bool = λ entry. contains entry.kind.0 in
    let value = c.args.value in
    let here : to_z w64 (of_z w64 value) ≡ value = omega (arith, ints, c.ranges.value.sfits) in
    let so_far = rw here at c.loop-entry.invariant in
    subst (λ (v : List PartKind). AddAmounts (λ key. c.args.group ≡ key) (λ key. for_group c.args.group key (gated flat test v value))
    c.args.amounts.now.items c.loop-entry.amounts.items)
    (take_all c.loop-entry.entry-index c.items-entry-items.result.now c.loop-entry-test.false ∙ c.items-entry-items.ensures) so_far
