use Rattle.flood_nodes.proofs.Common.{filter, sym, ◌∙◌, ap, subst, Lists, IsReaching}
use Rattle.std.proofs.Common.{take_all}
use Rattle.flood_nodes.proofs.LinkLaws.{passes_reach, reaching_are}
use Rattle.flood_nodes.proofs.linking.reaching.Goals as goal

pub returns : goal.returns
returns c =
    let raw = c.args.tech.now in
    let tiles = c.args.tiles.now in
    let all = take_all c.loop-place.place-index c.args.crossings.now c.loop-place-test.false in
    subst (Lists (IsReaching raw tiles c.args.plane c.args.other)) (sym (c.loop-place.invariant
    ∙ ap (filter (passes_reach raw tiles c.args.plane c.args.other)) all))
    (reaching_are raw tiles c.args.plane c.args.other c.args.crossings.now c.requires.crossings)
