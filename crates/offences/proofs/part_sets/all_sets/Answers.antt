use Rattle.offences.proofs.Common.{bit_or, get_or, take, sym, ◌∙◌, ap, take_more, PartSum, all_sets}
use Rattle.offences.proofs.SumLaws.{no_sum, all_sets-push}
use Rattle.offences.proofs.part_sets.all_sets.Goals as goal

pub loop-sum-preserved : goal.loop-sum-preserved
loop-sum-preserved c =
    let sums = c.args.sums.now in
    let i = c.loop-sum.sum-index in
    let sum : PartSum = get_or sums i no_sum in
    ap (λ x. bit_or x sum.set.0) c.loop-sum.invariant
    ∙ sym (ap all_sets (take_more sums i no_sum c.loop-sum-test.true) ∙ all_sets-push (take i sums) sum)
