-- The size of the room for a number of places, as the allocator counts it.
use mathlib.Core.Path.{◌≡◌, sym, ap, ◌∙◌}
use Prim.Native.Nat.{ℕ, zero, suc, ◌*◌, ◌<◌, ◌^◌}
use native.Mathlib.Nat.{zero-mul, suc-mul}
use native.Mathlib.Omega.{arith}
use mathlib.Core.List.{[], ◌∷◌}
use mir.Syntax.{Ty, Args, a_type, ty_array, dcons, dnil}
use mir.Raw.{raw as bare}
use prog.Memory.{align, capped}
use prog.Memory.{size as bytes_of}
use prog.Capped.{capped_is}
use prog.RawLaws.{size-raw, align-raw}
use denote.RattleType.{RattleType}
use denote.Param.{param, bounded}
use Rattle.tile_arena.proofs.Common.{El, elτ}
use Rattle.std.proofs.alloc.Calls.{Al}
use Rattle.tile_arena.proofs.PlaceSteps.{size}

-- a product that fits a word is what the program multiplies
pub product_fits : (count each : ℕ) → count * each < 2 ^ 64 → count * capped each ≡ count * each
product_fits zero each fits = zero-mul (capped each) ∙ sym (zero-mul each)
product_fits (suc count) each fits = let more = suc-mul count each in ap (λ (k : ℕ). suc count * k) (capped_is each (omega arith))

module _ (E : El) where
  -- the type that the room for as many places is taken for
  abbrev pub room_type : ℕ → Ty
  room_type count = bare (ty_array (elτ E) count)

  pub room_size : (count : ℕ) → count * size E < 2 ^ 64 → capped (bytes_of (room_type count)) ≡ count * size E
  room_size count fits = ap capped (size-raw (ty_array (elτ E) count)) ∙ capped_is (count * size E) fits

  pub room_align : (count : ℕ) → capped (align (room_type count)) ≡ capped (align (elτ E))
  room_align count = ap capped (align-raw (ty_array (elτ E) count))

module _ (E : El) (Z : Al) where
  -- what a function over an item's type and an allocator's is applied to
  abbrev pub two_types : Args
  two_types = bounded (a_type ∷ a_type ∷ []) (E.row, (Z.row, tt)) (dcons Z.d (dcons Z.drops dnil))

  abbrev pub AllocRow : RattleType
  AllocRow = param 1 Z.row
