use Rattle.tile_arena.proofs.Common.{◌≡◌, ◌+◌, ◌-◌, Some, refl, sym, ap, ◌∙◌, arith, slice_get_within}
use Rattle.tile_arena.proofs.LiveLaws.{live_slot, get-live_slot, live-clear}
use Rattle.tile_arena.proofs.SlotLaws.{IsSound-vacate, live_positive}
use Rattle.tile_arena.proofs.arenas.Arena.remove.Goals as goal

pub get_mut-requires : goal.get_mut-requires
get_mut-requires g c =
    let found = live_slot c.self.inside.slots.items c.args.id.0 (rw (← c.self.view_is) at c.requires) in
    slice_get_within c.self.inside.slots.items c.args.id.0 _ found.1

pub overflow_sub-self : goal.overflow_sub-self
overflow_sub-self g c =
    live_positive _ _ _ _ c.self.invariant c.args.id.0 c.in-Live.value (c.get_mut.ensures.value ∙ ap Some (sym c.replace.ensures.value ∙ c.in-Live.is))

pub invariant_of-self : goal.invariant_of-self
invariant_of-self g c =
    rw c.replace.ensures.after (IsSound-vacate _ _ _ _ c.self.invariant c.args.id.0 c.in-Live.value (c.get_mut.ensures.value
    ∙ ap Some (sym c.replace.ensures.value ∙ c.in-Live.is)))

pub unreachable-requires : goal.unreachable-requires
unreachable-requires g c =
    let found = live_slot c.self.inside.slots.items c.args.id.0 (rw (← c.self.view_is) at c.requires) in
    let slot = found.1 in
    let read = c.get_mut.ensures.value ∙ ap Some (sym c.replace.ensures.value ∙ c.in-Empty.is) in
    cc

pub returns-clause-value : goal.returns-clause-value
returns-clause-value g c =
    rw (← c.self.view_is) (get-live_slot c.self.inside.slots.items c.args.id.0 _ (c.get_mut.ensures.value ∙ ap Some (sym c.replace.ensures.value
    ∙ c.in-Live.is)))

pub returns-clause-removed : goal.returns-clause-removed
returns-clause-removed g c =
    let slot = c.get_mut.ensures.value ∙ ap Some (sym c.replace.ensures.value ∙ c.in-Live.is) in
    let some = live_positive _ _ _ _ c.self.invariant c.args.id.0 c.in-Live.value slot in
    let total = c.self.invariant.total in
    let roomy = c.self.invariant.roomy in
    let more : c.self.inside.slots.capacity - (c.self.inside.live - 1) ≡ c.self.inside.slots.capacity - c.self.inside.live + 1 = omega arith in
    rw (
      ← c.self.view_is,
      c.replace.ensures.after,
      live-clear c.self.inside.slots.items c.args.id.0 c.self.inside.next
          (slice_get_within _ _ _ slot),
      more,
    ) refl
