-- What an owner of places lends obeys the laws of lending wherever its items do.
use Prim.Native.Nat.{ℕ, ◌+◌}
use Rattle.tile_arena.proofs.Common.{None, type_size, place, row_of, place_lent, row_lent, places_own, places_lend}
use Rattle.std.specs.Prelude.{List, [], ◌∷◌, Option, Some}
use seplogic.Ra.Ura.{Ura}
use base.Fml.{Lft, Incl, ftrue, ffalse}
use types.Logic.{Logic}
use denote.RattleType.{RattleType, RowLaws}
use denote.Param.Laws.{Laws}
use denote.RawPtr.{Ptr, block_ptr, null_ptr}
use denote.Sharing.{ShrLaws, said}
use denote.SharingLaws.{beside_shr_laws, nothing_shr_laws, said_shr_laws}
use denote.Shares.{Shares-less}
use denote.Struct.Lending.{Lends, Lends-both, Lends-nothing, Lends-said, Lends-false}
use Rattle.tile_arena.specs.PlaceOwnership.{fit}

module _ (R : RattleType) (rows : RowLaws R) where
  place_is_shared : (block offset : ℕ) (held : Option R.Denot) → ShrLaws (place_lent R block offset held)
  place_is_shared block offset (Some item) = rows item block offset
  place_is_shared block offset None = nothing_shr_laws

  row_is_shared : (block offset : ℕ) (held : List (Option R.Denot)) → ShrLaws (row_lent R block offset held)
  row_is_shared block offset [] = nothing_shr_laws
  row_is_shared block offset (first ∷ held) =
      beside_shr_laws _ _ (place_is_shared block offset first) (row_is_shared block (offset + type_size R) held)

  -- what is lent of places may be copied and used for a shorter time
  pub places_are_shared : (at : Ptr) (held : List (Option R.Denot)) → ShrLaws (places_lend R at held)
  places_are_shared (block_ptr block offset) held = beside_shr_laws _ _ (said_shr_laws (fit R held) tt) (row_is_shared block offset held)
  places_are_shared null_ptr held = said_shr_laws ffalse tt

module _ {M : Type 1} {𝓤 : Ura M} (𝓛 : Logic 𝓤) (life : Lft) (R : RattleType) (laws : Laws R) (inner : Incl life R.lives) where
  place_lends : (block offset : ℕ) (held : Option R.Denot) → Lends 𝓛 (place R block offset held) (place_lent R block offset held) life
  place_lends block offset (Some item) = λ κ taken. Shares-less 𝓛 R R.lives life inner (laws.shares 𝓛) item κ taken block offset
  place_lends block offset None = Lends-nothing 𝓛 (place R block offset None) life

  row_lends : (block offset : ℕ) (held : List (Option R.Denot)) → Lends 𝓛 (row_of R block offset held) (row_lent R block offset held) life
  row_lends block offset [] = Lends-nothing 𝓛 ftrue life
  row_lends block offset (first ∷ held) =
      let next = offset + type_size R in
      Lends-both 𝓛 (place R block offset first) (row_of R block next held) (place_lent R block offset first) (row_lent R block next held) life
      (place_lends block offset first) (row_lends block next held)

  -- a borrow of places lends their items
  pub places_lend_items : (at : Ptr) (held : List (Option R.Denot)) → Lends 𝓛 (places_own R at held) (places_lend R at held) life
  places_lend_items (block_ptr block offset) held =
      Lends-both 𝓛 (fit R held) (row_of R block offset held) (said (fit R held)) (row_lent R block offset held) life
      (Lends-said 𝓛 (fit R held) tt life) (row_lends block offset held)
  places_lend_items null_ptr held = Lends-false 𝓛 (said ffalse) life
