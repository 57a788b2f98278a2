use Rattle.tile_arena.proofs.Common.{map, refl, ap, ◌∙◌, arith, get_or_past, length-map, value_of}
use Rattle.std.proofs.Common.{None, inl, inr}
use Rattle.std.proofs.lemmas.Bool.{cases_eq, cases_lt}
use Rattle.tile_arena.proofs.LiveLaws.{get-live, get-live_slot}
use Rattle.tile_arena.proofs.arenas.Arena.next_live.Goals as goal

pub loop-number-init : goal.loop-number-init
loop-number-init g c id above below = absurd (omega arith)

pub loop-number-preserved : goal.loop-number-preserved
loop-number-preserved g c id above below =
    elim (cases_eq id.0 c.loop-number.number) [
      | inl same ↦
          rw (← c.self.view_is) (rw same (get-live_slot c.self.inside.slots.items c.loop-number.number _ c.get.ensures ∙ ap value_of c.in_default.is))
      | inr apart ↦ c.loop-number.invariant id above (omega arith)
    ]

pub returns-in-Live : goal.returns-in-Live
returns-in-Live g c = (
  omega arith,
  rw (← c.self.view_is, get-live_slot c.self.inside.slots.items c.loop-number.number _ c.get.ensures, c.in-Live.is) refl,
  c.loop-number.invariant,
)

pub returns : goal.returns
returns g c id above =
    elim (cases_lt id.0 c.loop-number.number) [
      | inl below ↦ c.loop-number.invariant id above below
      | inr past ↦
          rw (← c.self.view_is) (get-live c.self.inside.slots.items id.0
          ∙ get_or_past (map value_of c.self.inside.slots.items) id.0 None (omega (arith, length-map c.self.inside.slots.items value_of)))
    ]
