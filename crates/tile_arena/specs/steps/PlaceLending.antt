-- What places hold once a `&mut` to the item of one of them has ended.
use Rattle.std.specs.Prelude.{ℕ, List, slice_set, Option, Some}
use Rattle.std.specs.Borrow.{Fml, RattleType, MutBor, Lends}
use Rattle.tile_arena.specs.declared.places.Places.{Places}
use Rattle.tile_arena.specs.contracts.places.Places.{the_row}

-- the same places, holding this
abbrev pub with_held : {X : Type 0} → Places X → List (Option X) → Places X
with_held places held = record { mark = places.mark; at = places.at; held = held }

-- once the borrow r ends, the place holds the last item written through r
abbrev pub lends_place : (R : RattleType) → MutBor (Places R.Denot) → ℕ → MutBor R.Denot → Fml
lends_place R places index r = Lends (the_row R) R places r (λ item. with_held places.now (slice_set places.now.held index (Some item)))
