-- Each entry adds its amounts to what the entries before it added.
use Rattle.meeting_sums.proofs.Common.{◌≡◌, ◌⊎◌, pos, ◌-ℤ◌, Bool, ◌&&◌, List, take, get_or, to_z, of_z, sym, ◌∙◌, subst, arith, w64, ints, take_more}
use Rattle.meeting_sums.proofs.Common.{take_all, class_of, PartKind, kind_in, flat_kind, for_both, AddAmounts}
use Rattle.meeting_sums.proofs.AmountLaws.{gated, no_entry, contact_first, contact_more}
use Rattle.meeting_sums.proofs.amounts.push_contact.Goals as goal

pub loop-entry-init : goal.loop-entry-init
loop-entry-init c =
    let contains = (class_of c.args.class.now).contains in
    let first = c.args.first.now in
    let second = c.args.second.now in
    let length = c.args.length in
    let here : to_z w64 (of_z w64 length) ≡ length = omega (arith, ints, c.ranges.length.sfits) in
    let minus : to_z w64 (of_z w64 (pos 0 -ℤ to_z w64 (of_z w64 length))) ≡ pos 0 -ℤ length = rw here (let some = c.requires.some in
    omega (arith, ints, c.ranges.length.sfits, some)) in
    rw here (contact_first c.args.groups.0 c.args.groups.1 (contains (flat_kind first) && contains (flat_kind second))
    (λ entry. contains entry.kind.0 && contains (kind_in second.kinds entry.part)) length _ c.are_flat_of.result c.args.amounts.now.items
    c.push_both_if.new.amounts.items minus c.are_flat_of.ensures c.in_ok-push_both_if.ensures)

pub loop-entry-preserved : goal.loop-entry-preserved
loop-entry-preserved c =
    let contains = (class_of c.args.class.now).contains in
    let first = c.args.first.now in
    let second = c.args.second.now in
    let kinds = c.items-entry-items.result.now in
    let i = c.loop-entry.entry-index in
    let flat = contains (flat_kind first) && contains (flat_kind second) in
    let test : PartKind → Bool = λ entry. contains entry.kind.0 && contains (kind_in second.kinds entry.part) in
    let length = c.args.length in
    let here : to_z w64 (of_z w64 length) ≡ length = omega (arith, ints, c.ranges.length.sfits) in
    let so_far = rw here at c.loop-entry.invariant in
    rw here (subst (λ (v : List PartKind). AddAmounts (λ key. (c.args.groups.0 ≡ key) ⊎ (c.args.groups.1 ≡ key))
    (λ key. pos 0 -ℤ for_both c.args.groups.0 c.args.groups.1 key (gated flat test v length)) c.args.amounts.now.items
    c.push_both_if-in-loop-entry.new.amounts.items)
    (sym (take_more kinds i no_entry c.loop-entry-test.true))
    (contact_more c.args.groups.0 c.args.groups.1 flat test (take i kinds) (get_or kinds i no_entry) length c.is_shared.result
    c.args.amounts.now.items c.loop-entry.amounts.items c.push_both_if-in-loop-entry.new.amounts.items c.is_shared.ensures so_far
    (rw here at c.in_ok-push_both_if-2.ensures)))

pub returns : goal.returns
returns c =
    let contains = (class_of c.args.class.now).contains in
    let first = c.args.first.now in
    let second = c.args.second.now in
    let flat = contains (flat_kind first) && contains (flat_kind second) in
    let test : PartKind → Bool = λ entry. contains entry.kind.0 && contains (kind_in second.kinds entry.part) in
    let length = c.args.length in
    let here : to_z w64 (of_z w64 length) ≡ length = omega (arith, ints, c.ranges.length.sfits) in
    let so_far = rw here at c.loop-entry.invariant in
    subst (λ (v : List PartKind). AddAmounts (λ key. (c.args.groups.0 ≡ key) ⊎ (c.args.groups.1 ≡ key))
    (λ key. pos 0 -ℤ for_both c.args.groups.0 c.args.groups.1 key (gated flat test v length)) c.args.amounts.now.items c.loop-entry.amounts.items)
    (take_all c.loop-entry.entry-index c.items-entry-items.result.now c.loop-entry-test.false ∙ c.items-entry-items.ensures) so_far
