use Rattle.meeting_sums.proofs.Common.{◌≡◌, ◌⊎◌, ◌&&◌, pos, ◌-ℤ◌, take, class_of, kind_in, flat_kind, for_both, AddAmounts}
use Rattle.meeting_sums.proofs.AmountLaws.{gated}
use Rattle.meeting_sums.proofs.amounts.push_contact.Given as goal

abbrev pub invariant-loop-entry : goal.invariant-loop-entry
invariant-loop-entry l =
    let contains = (class_of l.class).contains in
    AddAmounts (λ key. (l.groups.0 ≡ key) ⊎ (l.groups.1 ≡ key))
    (λ key. pos 0 -ℤ for_both l.groups.0 l.groups.1 key (gated (contains (flat_kind l.first) && contains (flat_kind l.second))
    (λ entry. contains entry.kind.0 && contains (kind_in l.second.kinds entry.part)) (take l.entry-index l.entry-items) l.length))
    l.fn.amounts.items l.amounts.items
