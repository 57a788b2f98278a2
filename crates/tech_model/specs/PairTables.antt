-- Tables of pairs of numbers: a row of bits for each first number.
use Rattle.std.specs.Prelude.{◌≡◌, ◌==◌, ◌<◌, ℕ, Bool, List, slice_index_or}
use Rattle.std.specs.List.{list_any}
use Rattle.std.specs.Int.{bit_at}
use Rattle.tech_model.specs.declared.raw.TypeId.{TypeId}
use Rattle.tech_model.specs.Types.{is_of}
use Rattle.tech_model.specs.declared.pair_table.TheConstants.{ROWS}

-- the row of s has the bit t
abbrev pub row_has : List ℕ → ℕ → ℕ → Bool
row_has rows s t = bit_at (slice_index_or rows s 0) t == 1

-- of all numbers that have a row, the rows have those that one of the pairs joins
abbrev pub HasPairs : List ℕ → List (TypeId × TypeId) → Type 0
HasPairs rows pairs = (s t : ℕ) → s < ROWS → t < ROWS → row_has rows s t ≡ list_any (is_of s t) pairs
