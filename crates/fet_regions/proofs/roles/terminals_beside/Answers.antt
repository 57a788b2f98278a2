use Rattle.fet_regions.proofs.Common.{◌++◌, ◌∷◌, [], sym, ◌∙◌, arith, map-range_with_len_more, is_terminal}
use Rattle.fet_regions.proofs.roles.terminals_beside.Goals as goal

pub loop-kind-preserved : goal.loop-kind-preserved
loop-kind-preserved c =
    let i = c.loop-kind.kind in
    c.in_ok-push.ensures.items ∙ (λ k. c.loop-kind.invariant k ++ (c.is_terminal.ensures k ∷ []))
    ∙ sym (map-range_with_len_more (is_terminal c.args.raw.now c.args.channel) 0 i i (omega arith))
