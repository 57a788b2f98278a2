use Rattle.std.proofs.Common.{◌≡◌, ◌+◌, ◌<◌, pos, ◌+ℤ◌, length, get_or, ◌∙◌, rules, arith, to_z, of_z}
use Rattle.std.specs.Int.{w64, w128}
use Rattle.std.specs.Int.RustNames.{FitsSigned}
use Rattle.std.proofs.Math.ListN.{length-set}
use Rattle.std.proofs.lemmas.Int.{to_z-of_z}
use Rattle.std.proofs.lemmas.List.{get_or_default}
use Rattle.key_sums.specs.declared.Amount.{Amount}
use Rattle.key_sums.proofs.SumLaws.{fits_is, bounded_fits, bounded_more, one_more, all_bounded}
use Rattle.key_sums.proofs.sums_by_key.Goals as goal

abbrev no_amount : Amount
no_amount = record { key = 0; value = pos 0 }

pub overflow_add-index_mut : goal.overflow_add-index_mut
overflow_add-index_mut c =
    let amounts = c.args.amounts.now in
    let sums = c.loop-amount.sums.items in
    let amount : Amount = get_or amounts c.loop-amount.amount-index no_amount in
    let below : amount.key < c.args.count = c.requires c.loop-amount.amount-index no_amount c.loop-amount-test.true in
    let long = c.loop-amount.invariant.so_many in
    let now : c.index_mut.result.now ≡ get_or sums amount.key (pos 0) = c.index_mut.ensures.value
    ∙ get_or_default sums amount.key c.index_mut.result.now (pos 0) (omega (arith, below, long)) in
    let many : length amounts < 9223372036854775808 = search rules in
    let inside = c.loop-amount-test.true in
    let fits : FitsSigned w64 amount.value = search rules in
    let value : c.from.result ≡ amount.value = c.from.ensures ∙ to_z-of_z w64 amount.value fits in
    let old = c.loop-amount.invariant.bounded amount.key below in
    let is : to_z w128 (of_z w128 c.index_mut.result.now) ≡ get_or sums amount.key (pos 0) = to_z-of_z w128 c.index_mut.result.now (search rules) ∙ now in
    let was : to_z w128 (of_z w128 c.from.result) ≡ amount.value = to_z-of_z w128 c.from.result (search rules) ∙ value in
    rw (is, was) (bounded_fits (c.loop-amount.amount-index + 1) _ (omega (arith, many, inside))
    (bounded_more c.loop-amount.amount-index (get_or sums amount.key (pos 0)) amount.value old (fits_is amount.value fits)))

pub loop-amount-preserved : goal.loop-amount-preserved
loop-amount-preserved c =
    let amounts = c.args.amounts.now in
    let sums = c.loop-amount.sums.items in
    let i = c.loop-amount.amount-index in
    let amount : Amount = get_or amounts i no_amount in
    let below : amount.key < c.args.count = c.requires i no_amount c.loop-amount-test.true in
    let long = c.loop-amount.invariant.so_many in
    let now : c.index_mut.result.now ≡ get_or sums amount.key (pos 0) = c.index_mut.ensures.value
    ∙ get_or_default sums amount.key c.index_mut.result.now (pos 0) (omega (arith, below, long)) in
    let many : length amounts < 9223372036854775808 = search rules in
    let inside = c.loop-amount-test.true in
    let fits : FitsSigned w64 amount.value = search rules in
    let value : c.from.result ≡ amount.value = c.from.ensures ∙ to_z-of_z w64 amount.value fits in
    let old = c.loop-amount.invariant.bounded amount.key below in
    let is : to_z w128 (of_z w128 c.index_mut.result.now) ≡ get_or sums amount.key (pos 0) = to_z-of_z w128 c.index_mut.result.now (search rules) ∙ now in
    let was : to_z w128 (of_z w128 c.from.result) ≡ amount.value = to_z-of_z w128 c.from.result (search rules) ∙ value in
    let sum : FitsSigned w128 (get_or sums amount.key (pos 0) +ℤ amount.value) = bounded_fits (i + 1) _ (omega (arith, many, inside))
    (bounded_more i (get_or sums amount.key (pos 0)) amount.value old (fits_is amount.value fits)) in
    let all : to_z w128 (of_z w128 (get_or sums amount.key (pos 0) +ℤ amount.value)) ≡ get_or sums amount.key (pos 0) +ℤ amount.value = to_z-of_z w128 _ sum in
    rw (is, was, all) (record {
      so_many = length-set sums amount.key _ ∙ long;
      each = one_more sums amounts i c.args.count no_amount inside long below c.loop-amount.invariant.each;
      bounded = all_bounded sums i c.args.count amount.key amount.value below long (fits_is amount.value fits) c.loop-amount.invariant.bounded;
    })
