use Rattle.meeting_sums.proofs.Common.{◌≡◌, take, class_of, flat_kind, for_group, AddAmounts}
use Rattle.meeting_sums.proofs.AmountLaws.{gated}
use Rattle.meeting_sums.proofs.amounts.push_stack.Given as goal

abbrev pub invariant-loop-entry : goal.invariant-loop-entry
invariant-loop-entry l =
    let contains = (class_of l.class).contains in
    AddAmounts (λ key. l.group ≡ key)
    (λ key. for_group l.group key (gated (contains (flat_kind l.stack)) (λ entry. contains entry.kind.0) (take l.entry-index l.entry-items) l.value))
    l.fn.amounts.items l.amounts.items
