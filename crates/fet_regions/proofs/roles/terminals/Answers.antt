use Rattle.fet_regions.proofs.Common.{◌++◌, ◌∷◌, [], map, sym, ◌∙◌, arith, range_with_len, map-range_with_len_more, is_terminal, ROWS}
use Rattle.fet_regions.proofs.roles.terminals.Goals as goal

pub loop-channel-preserved : goal.loop-channel-preserved
loop-channel-preserved c =
    let i = c.loop-channel.channel in
    c.in_ok-push.ensures.items ∙ (λ k. c.loop-channel.invariant k ++ ((c.of.ensures ∙ c.in_ok-row.ensures) k ∷ []))
    ∙ sym (map-range_with_len_more (λ channel. map (is_terminal c.args.raw.now channel) (range_with_len 0 ROWS)) 0 i i (omega arith))
