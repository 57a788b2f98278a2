use Rattle.hier_merge.proofs.Common.{map, ap, ◌∙◌, arith, slice_index}
use Rattle.std.proofs.lemmas.List.{take_all}
use Rattle.hier_merge.proofs.plane_pieces.numbers_at.Goals as goal

pub returns : goal.returns
returns c =
    c.loop-place.invariant ∙ ap (map (slice_index c.args.numbers.now)) (take_all c.loop-place.place-index c.args.places.now (omega (arith, c.loop-place-test.false)))
