use Rattle.tile_arena.proofs.Common.{◌≡◌, refl, ◌∙◌, slice_get_within, Live}
use Rattle.tile_arena.proofs.LiveLaws.{live_slot, get-live_slot, live-set}
use Rattle.tile_arena.proofs.SlotLaws.{IsSound-rewrite}
use Rattle.tile_arena.proofs.arenas.Arena.get_mut.Goals as goal

pub get_mut-requires : goal.get_mut-requires
get_mut-requires g c =
    let found = live_slot c.self.inside.slots.items c.args.id.0 (rw (← c.self.view_is) at c.requires) in
    slice_get_within c.self.inside.slots.items c.args.id.0 _ found.1

pub value_mut-requires : goal.value_mut-requires
value_mut-requires g c =
    let found = live_slot c.self.inside.slots.items c.args.id.0 (rw (← c.self.view_is) at c.requires) in
    let slot = found.1 in
    let read = c.get_mut.ensures.value in
    let same : c.get_mut.result.now ≡ Live found.0 = cc in
    rw same refl

pub invariant_of-self-lent : goal.invariant_of-self-lent
invariant_of-self-lent g c w =
    let found = live_slot c.self.inside.slots.items c.args.id.0 (rw (← c.self.view_is) at c.requires) in
    IsSound-rewrite _ _ _ _ c.self.invariant c.args.id.0 found.0 w found.1

pub returns : goal.returns
returns g c =
    let within = slice_get_within c.self.inside.slots.items c.args.id.0 _ c.get_mut.ensures.value in (
      (refl, λ w. rw (← c.self.view_is, live-set c.self.inside.slots.items c.args.id.0 w within) refl),
      record {
        writes_back = tt;
        value = rw (← c.self.view_is) (get-live_slot c.self.inside.slots.items c.args.id.0 _ c.get_mut.ensures.value
            ∙ c.value_mut.ensures.value);
      },
    )
