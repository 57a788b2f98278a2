use Rattle.tile_plane.proofs.Common.{subst, sym, IsProper, Tile}
use Rattle.tile_plane.proofs.TileLaws.{AreProper-insert, put_by_insert}
use Rattle.tile_plane.proofs.stores.Store.insert.Goals as goal

pub invariant_of-self-2 : goal.invariant_of-self-2
invariant_of-self-2 c = rw (c.insert_reserved-id.ensures.stored, c.reserve.ensures.values)
    (AreProper-insert _ _ _ (subst (λ (t : Tile). IsProper t.area) (sym c.new.ensures) c.requires.proper) c.self.invariant)

pub returns-clause-put : goal.returns-clause-put
returns-clause-put c = rw (c.insert_reserved-id.ensures.stored, c.reserve.ensures.values, ← c.self.view_is) (put_by_insert _ _ _ c.args.tile c.new.ensures)
