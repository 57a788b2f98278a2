use Rattle.meeting_sums.proofs.Common.{◌≡◌, pos, Bool, cond, to_z, of_z, sym, subst, arith, w64, ints, for_group, AddAmounts}
use Rattle.meeting_sums.proofs.AmountLaws.{adds_one}
use Rattle.meeting_sums.proofs.amounts.push_if.Goals as goal

pub returns-in_ok-push : goal.returns-in_ok-push
returns-in_ok-push c =
    let group = c.args.group in
    let old = c.args.amounts.now.items in
    let value = c.args.value in
    let here : to_z w64 (of_z w64 value) ≡ value = omega (arith, ints, c.ranges.value.sfits) in
    let added = rw here at c.in_ok-push.ensures.items in
    subst (λ (t : Bool). AddAmounts (λ key. group ≡ key) (λ key. for_group group key (cond t value (pos 0))) old c.push.new.self.items) (sym
    c.if-counts.true)
    (subst (AddAmounts (λ key. group ≡ key) (λ key. for_group group key value) old) (sym added) (adds_one group value old))
