-- What the owner of places owns and lends, and what the right to give them back is, for items of the row R.
use Rattle.std.specs.Prelude.{ℕ, ◌+◌, ◌*◌, ◌^◌, List, [], ◌∷◌, length, Option, Some, None}
use Rattle.std.specs.Mem.{type_size}
use base.Fraction.{full_share}
use base.Fml.{Lft, Fml, ftrue, ffalse, fsep, flt, froom}
use mir.Syntax.{Ty, ty_array}
use mir.Raw.{raw}
use denote.RattleType.{RattleType}
use denote.Memory.{lone, part_at, shared_of}
use denote.Sharing.{nothing, said, beside}
use denote.RawPtr.{Ptr, block_ptr, null_ptr}

module _ (R : RattleType) where
  -- the place that lies `offset` bytes into the block: an item, or bare room for one
  abbrev pub place : ℕ → ℕ → Option R.Denot → Fml
  place block offset (Some item) = part_at R full_share item block offset
  place block offset None = froom (raw (lone R.mir)) block offset

  -- the places from there on, side by side
  abbrev pub row_of : ℕ → ℕ → List (Option R.Denot) → Fml
  row_of block offset [] = ftrue
  row_of block offset (held ∷ others) = fsep (place block offset held) (row_of block (offset + type_size R) others)

  -- what is lent of a place: its item
  abbrev pub place_lent : ℕ → ℕ → Option R.Denot → Lft → Fml
  place_lent block offset (Some item) = shared_of R item block offset
  place_lent block offset None = nothing

  abbrev pub row_lent : ℕ → ℕ → List (Option R.Denot) → Lft → Fml
  row_lent block offset [] = nothing
  row_lent block offset (held ∷ others) = beside (place_lent block offset held) (row_lent block (offset + type_size R) others)

  -- the places take fewer than 2 ^ 63 bytes
  abbrev pub fit : List (Option R.Denot) → Fml
  fit held = flt (length held * type_size R) (2 ^ 63)

  -- the owner of places owns each of them
  abbrev pub places_own : Ptr → List (Option R.Denot) → Fml
  places_own (block_ptr block offset) held = fsep (fit held) (row_of block offset held)
  places_own null_ptr held = ffalse

  -- a reference to the owner lends each item
  abbrev pub places_lend : Ptr → List (Option R.Denot) → Lft → Fml
  places_lend (block_ptr block offset) held = beside (said (fit held)) (row_lent block offset held)
  places_lend null_ptr held = said ffalse

  -- the allocator's token for a block of as many places
  abbrev pub title_owns : (Ty → Ptr → Fml) → Ptr → ℕ → Fml
  title_owns token at count = token (raw (ty_array (lone R.mir) count)) at
