use Rattle.fet_regions.proofs.Common.{take, get, key_cmp, AreFoundAt}
use Rattle.fet_regions.proofs.transistors.fets_at.Given as goal

abbrev pub invariant-loop-place : goal.invariant-loop-place
invariant-loop-place l = AreFoundAt l.tiles l.labels l.sizes (get key_cmp l.lengths) (take l.place-index l.lowest) l.found.items
