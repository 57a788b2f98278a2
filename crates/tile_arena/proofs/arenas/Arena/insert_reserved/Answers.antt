use Rattle.tile_arena.proofs.Common.{◌≡◌, ◌+◌, ◌-◌, Some, length, refl, sym, ap, ◌∙◌, arith}
use Rattle.tile_arena.proofs.LiveLaws.{get-live, live-push, live-set}
use Rattle.tile_arena.proofs.SlotLaws.{full_at_end, next_within, next_is_free, IsSound-push, IsSound-fill}
use Rattle.tile_arena.proofs.arenas.Arena.insert_reserved.Goals as goal

pub invariant_of-self : goal.invariant_of-self
invariant_of-self g c =
    let room = rw (← c.self.view_is) at c.requires in
    let full = full_at_end _ _ _ _ c.self.invariant (omega arith) in
    rw (c.push.ensures.items, c.push.ensures.capacity) (IsSound-push _ _ _ _ c.self.invariant c.args.value (omega arith) (omega arith))

pub get_mut-requires : goal.get_mut-requires
get_mut-requires g c = next_within _ _ _ _ c.self.invariant (λ e. omega arith)

pub invariant_of-self-in-Empty : goal.invariant_of-self-in-Empty
invariant_of-self-in-Empty g c =
    rw c.replace.ensures.after (IsSound-fill _ _ _ _ c.self.invariant c.in-Empty.next c.args.value (c.get_mut.ensures.value
    ∙ ap Some (sym c.replace.ensures.value ∙ c.in-Empty.is)))

pub returns-then-id-len-clause-was_free : goal.returns-then-id-len-clause-was_free
returns-then-id-len-clause-was_free g c = rw (← c.self.view_is) (get-live c.self.inside.slots.items c.self.inside.next
    ∙ next_is_free _ _ _ _ c.self.invariant)

pub returns-then-id-len-clause-stored : goal.returns-then-id-len-clause-stored
returns-then-id-len-clause-stored g c =
    let at_end : c.self.inside.next ≡ length c.self.inside.slots.items = omega arith in
    let less : c.self.inside.slots.capacity - (c.self.inside.live + 1) ≡ c.self.inside.slots.capacity - c.self.inside.live - 1 = omega arith in
    rw (← c.self.view_is, c.push.ensures.items, c.push.ensures.capacity, live-push c.self.inside.slots.items c.args.value, less, at_end) refl

pub returns-in-Empty-clause-was_free : goal.returns-in-Empty-clause-was_free
returns-in-Empty-clause-was_free g c = rw (← c.self.view_is) (get-live c.self.inside.slots.items c.self.inside.next ∙ next_is_free _ _ _ _ c.self.invariant)

pub returns-in-Empty-clause-stored : goal.returns-in-Empty-clause-stored
returns-in-Empty-clause-stored g c =
    let less : c.self.inside.slots.capacity - (c.self.inside.live + 1) ≡ c.self.inside.slots.capacity - c.self.inside.live - 1 = omega arith in
    rw (
      ← c.self.view_is,
      c.replace.ensures.after,
      live-set c.self.inside.slots.items c.self.inside.next c.args.value
          (next_within _ _ _ _ c.self.invariant (λ e. omega arith)),
      less,
    ) refl
