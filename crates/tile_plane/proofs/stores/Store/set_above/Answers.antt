use Rattle.tile_plane.proofs.Common.{refl, Tile}
use Rattle.tile_plane.proofs.TileLaws.{AreProper-write, put_by_write}
use Rattle.tile_plane.proofs.stores.Store.set_above.Goals as goal

pub invariant_of-self : goal.invariant_of-self
invariant_of-self c = AreProper-write _ c.args.id _ _ c.get_mut.ensures.value refl c.self.invariant

pub returns : goal.returns
returns c = rw (← c.self.view_is) (put_by_write _ c.args.id _ _ (λ (t : Tile). record t { above = c.args.above }) c.get_mut.ensures.value refl)
