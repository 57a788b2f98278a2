use Rattle.tile_plane.proofs.TileLaws.{AreProper-empty}
use Rattle.tile_plane.proofs.stores.Store.new.Goals as goal

pub invariant_of-result : goal.invariant_of-result
invariant_of-result c = rw c.new.ensures.empty AreProper-empty
