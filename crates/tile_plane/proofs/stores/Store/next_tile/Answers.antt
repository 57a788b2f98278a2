use Rattle.tile_plane.proofs.Common.{◌≡◌, ℕ, ◌≤◌, Option, Some, None, true≢false, sym, ◌∙◌, ap, subst, arith, Slot, IsTaken, AreProper, IsAfter}
use Rattle.tile_plane.proofs.Common.{IsNextTile}
use Rattle.std.proofs.Common.{MatchOption, is_some}
use Rattle.tile_arena.specs.declared.ids.Id.{Id}
use Rattle.tile_arena.specs.Arenas.{Arena, value_at, number_after, IsLeastLiveFrom}
use Rattle.tile_plane.proofs.TileLaws.{taken_live}
use Rattle.tile_plane.proofs.stores.Store.next_tile.Goals as goal

-- the id is that of the number, if there is one
abbrev IsIdOf : Option ℕ → Option Id → Type 0
IsIdOf after from = MatchOption after (from ≡ None) (λ (n : ℕ). from ≡ Some (record { 0 = n }))

from_after : (after : Option ℕ) (from : Option Id) (id : ℕ) → IsIdOf after from → IsAfter after id → number_after from ≤ id
from_after None from id is late = subst (λ (o : Option Id). number_after o ≤ id) (sym is) (omega arith)
from_after (Some n) from id is late = subst (λ (o : Option Id). number_after o ≤ id) (sym is) (omega arith)

after_from : (after : Option ℕ) (from : Option Id) (id : ℕ) → IsIdOf after from → number_after from ≤ id → IsAfter after id
after_from None from id is late = tt
after_from (Some n) from id is late = let bound = subst (λ (o : Option Id). number_after o ≤ id) is late in omega arith

not_taken : (arena : Arena Slot) (id : ℕ) → value_at arena (record { 0 = id }) ≡ None → IsTaken arena.live id → ⊥
not_taken arena id none taken = true≢false (sym (taken_live arena.live id taken) ∙ ap is_some none)

next_is : (arena : Arena Slot) (after : Option ℕ) (from found : Option Id) → IsIdOf after from → AreProper arena.live
    → IsLeastLiveFrom arena (number_after from) found
    → MatchOption found (IsNextTile arena.live after None) (λ (next : Id). IsNextTile arena.live after (Some next.0))
next_is arena after from None is all none = λ id late. not_taken arena id (none (record { 0 = id }) (from_after after from id is late))
next_is arena after from (Some next) is all least = (
  after_from after from next.0 is least.0,
  all.proper next.0 least.1,
  λ id late before. not_taken arena id (least.2 (record { 0 = id }) (from_after after from id is late) before),
)

pub returns-in_err-next : goal.returns-in_err-next
returns-in_err-next c = rw (c.from_residual.ensures, ← c.self.view_is)
    (next_is c.self.inside.arena c.args.after _ None c.id_if.ensures c.self.invariant c.in_err-next.ensures)

pub returns : goal.returns
returns c = rw (← c.self.view_is) (next_is c.self.inside.arena c.args.after _ (Some c.in_ok-next.next) c.id_if.ensures c.self.invariant c.in_ok-next.ensures)
