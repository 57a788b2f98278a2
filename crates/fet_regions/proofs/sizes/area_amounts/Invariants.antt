use Rattle.fet_regions.proofs.Common.{◌≡◌, map, range_with_len, area_amount}
use Rattle.fet_regions.proofs.sizes.area_amounts.Given as goal

abbrev pub invariant-loop-place : goal.invariant-loop-place
invariant-loop-place l = l.amounts.items ≡ map (area_amount l.tiles l.labels) (range_with_len 0 l.place)
