use Rattle.fet_regions.proofs.Common.{◌++◌, ◌∷◌, [], sym, ◌∙◌, arith, map-range_with_len_more, is_channel}
use Rattle.fet_regions.proofs.roles.channels.Goals as goal

pub loop-kind-preserved : goal.loop-kind-preserved
loop-kind-preserved c =
    let i = c.loop-kind.kind in
    c.in_ok-push.ensures.items ∙ (λ k. c.loop-kind.invariant k ++ (c.is_channel.ensures k ∷ []))
    ∙ sym (map-range_with_len_more (is_channel c.args.raw.now) 0 i i (omega arith))
