use Rattle.hier_merge.proofs.Common.{◌≡◌, map, take, slice_index}
use Rattle.hier_merge.proofs.plane_pieces.numbers_at.Given as goal

abbrev pub invariant-loop-place : goal.invariant-loop-place
invariant-loop-place l = l.found.items ≡ map (slice_index l.numbers) (take l.place-index l.places)
