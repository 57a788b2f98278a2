use Rattle.tile_plane.proofs.Common.{subst, sym, Tile, IsProper}
use Rattle.tile_plane.proofs.TileLaws.{AreProper-insert, put_by_insert}
use Rattle.tile_plane.proofs.stores.Store.put.Goals as goal

pub invariant_of-self : goal.invariant_of-self
invariant_of-self c = AreProper-insert _ c.args.id _ (subst (λ (t : Tile). IsProper t.area) (sym c.new.ensures) c.requires.proper) c.self.invariant

pub returns : goal.returns
returns c = rw (← c.self.view_is) (put_by_insert _ c.args.id _ c.args.tile c.new.ensures)
