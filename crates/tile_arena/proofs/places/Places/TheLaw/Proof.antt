-- A `&` to the owner of places reaches each item. Assumes `Logic`.
use mathlib.Core.List.{[], ◌++◌}
use base.Fml.{Incl-trans}
use contract.BorrowLft.{meet_⊑_left}
use denote.RattleType.{RattleType}
use denote.RawPtr.{RawPtr}
use denote.Param.Laws.{Laws}
use denote.Param.Shared.{copy_shared}
use denote.Struct.Laws.{field_copy}
use denote.Struct.Lending.{of_Lends}
use Rattle.std.specs.contracts.marker.PhantomData as marker
use Rattle.tile_arena.specs.contracts.places.Places as Owner
use Rattle.tile_arena.proofs.places.Places.TheLaw.Statement.{statement}
use Rattle.tile_arena.proofs.PlaceShares.{places_are_shared, places_lend_items}

pub shares : (R : RattleType) (laws : Laws R) → statement R laws
shares R laws =
    let mark = copy_shared (marker.the_field RawPtr) (field_copy (marker.the_type RawPtr) tt) in
    of_Lends (Owner.struct R) (Owner.the_codes R.Denot R.coded (marker.the_row RawPtr).coded) (Owner.the_heap R) (Owner.the_lent R)
    (λ places p. places_are_shared R laws.shr_laws places.at places.held) (mark, tt)
    (λ M 𝓤 𝓛 places p.
    let inner = Incl-trans (meet_⊑_left (R.lives ++ []) _) (meet_⊑_left R.lives []) in
    places_lend_items 𝓛 (Owner.the_row R).lives R laws inner places.at places.held)
