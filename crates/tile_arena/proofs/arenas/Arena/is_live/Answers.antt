use Rattle.tile_arena.proofs.Common.{map, sym, ap, ◌∙◌, arith, get_or_past, length-map, value_of}
use Rattle.std.proofs.Common.{None, is_some}
use Rattle.tile_arena.proofs.LiveLaws.{get-live, get-live_slot}
use Rattle.tile_arena.proofs.arenas.Arena.is_live.Goals as goal

pub returns : goal.returns
returns g c =
    rw (← c.self.view_is) (c.is_live.ensures ∙ ap is_some (sym (get-live_slot c.self.inside.slots.items c.args.id.0 _ c.get.ensures)))

pub returns-then-len-id : goal.returns-then-len-id
returns-then-len-id g c =
    let slots = c.self.inside.slots.items in
    let past = get_or_past (map value_of slots) c.args.id.0 None (omega (arith, length-map slots value_of)) in
    rw (← c.self.view_is) (sym (ap is_some (get-live slots c.args.id.0 ∙ past)))
