use Rattle.tile_plane.proofs.TileLaws.{AreProper-remove, gone_by_remove, others_by_remove}
use Rattle.tile_plane.proofs.stores.Store.remove.Goals as goal

pub invariant_of-self : goal.invariant_of-self
invariant_of-self c = rw c.remove-tile.ensures.removed (AreProper-remove _ c.args.id c.self.invariant)

pub returns-clause-gone : goal.returns-clause-gone
returns-clause-gone c = rw c.remove-tile.ensures.removed (gone_by_remove _ c.args.id)

pub returns-clause-others : goal.returns-clause-others
returns-clause-others c = rw (c.remove-tile.ensures.removed, ← c.self.view_is) (others_by_remove _ c.args.id)
