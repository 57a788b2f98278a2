use Rattle.plain_records.proofs.Common.{◌≡◌, ◌+◌, ◌*◌, suc, min, get_or, length, ◌∙◌, ap, arith, get_or_default, plain_uses, MOST_FLAT_ELEMENTS}
use Rattle.plain_records.proofs.Common.{value_at}
use Rattle.std.proofs.lemmas.Grind.{common_steps}
use Rattle.plain_records.proofs.SizeLaws.{rest_step}
use Rattle.plain_records.proofs.reach.size_of.Goals as goal

pub loop-at-preserved : goal.loop-at-preserved
loop-at-preserved c =
    let sizes = c.args.sizes.now in
    let uses = c.args.uses.now in
    let children = c.args.children.now in
    let at = c.loop-at.at in
    let child = get_or children at 0 in
    let step = rest_step (value_at sizes) uses children at c.index-uses-at.result c.requires.long c.loop-at-test.true c.index-uses-at.is in
    let product : c.element_count.result * get_or sizes child 0 ≡ length (plain_uses c.index-uses-at.result) * get_or sizes child 1 =
    ap (λ n. n * get_or sizes child 0) c.element_count.ensures.count
    ∙ ap (λ n. length (plain_uses c.index-uses-at.result) * n) (get_or_default sizes child 0 1 (c.requires.within at 0 c.loop-at-test.true)) in
    let size : c.min-size.result ≡ min (c.loop-at.size + c.element_count.result * get_or sizes child 0) (suc MOST_FLAT_ELEMENTS) =
    grind (arith, common_steps) in
    let total = c.loop-at.invariant.total in
    record { small = omega (arith, size); total = omega (arith, size, product, step, total) }
