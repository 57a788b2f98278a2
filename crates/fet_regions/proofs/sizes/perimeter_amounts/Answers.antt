use Rattle.fet_regions.proofs.Common.{◌≡◌, ◌++◌, ◌∷◌, [], List, sym, ◌∙◌, ap, arith, rules, to_z, of_z, w64, to_z-of_z, map-range_with_len_more}
use Rattle.fet_regions.proofs.Common.{Amount, perimeter_of, tile_at, perimeter_amount}
use Rattle.fet_regions.proofs.sizes.perimeter_amounts.Goals as goal

pub loop-place-preserved : goal.loop-place-preserved
loop-place-preserved c =
    let tiles = c.args.tiles.now in
    let labels = c.args.labels.now in
    let i = c.loop-place.place in
    let value : to_z w64 (of_z w64 c.perimeter_of.result) ≡ perimeter_of (tile_at tiles i).area =
    to_z-of_z w64 c.perimeter_of.result (search rules) ∙ c.perimeter_of.ensures in
    (rw value at c.in_ok-push.ensures.items) ∙ ap (λ (v : List Amount). v ++ perimeter_amount tiles labels i ∷ []) c.loop-place.invariant
    ∙ sym (map-range_with_len_more (perimeter_amount tiles labels) 0 i i (omega arith))
