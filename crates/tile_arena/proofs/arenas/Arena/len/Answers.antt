use Rattle.tile_arena.proofs.Common.{sym, ◌∙◌}
use Rattle.tile_arena.proofs.LiveLaws.{len-live_from}
use Rattle.tile_arena.proofs.arenas.Arena.len.Goals as goal

pub returns : goal.returns
returns g c = rw (← c.self.view_is) (c.self.invariant.counted ∙ sym (len-live_from 0 c.self.inside.slots.items))
