-- The plain form of a record: each element of an array is a use of its own there, and each merge of a row a merge of its own.
use Rattle.std.specs.Prelude.{◌==◌, if◌then◌else◌, ℕ, zero, suc, ℤ, pos, ◌+ℤ◌, ◌*ℤ◌, List, [], ◌∷◌, ◌++◌, map, Option, Some, None, Ok, Err}
use Rattle.std.specs.List.{before_first, flat_map, range_with_len}
use Rattle.text_scan.specs.Decimal.{decimal}
use Rattle.text_scan.specs.Numbers.{number_of}
use Rattle.geo_core.specs.declared.grids.Grid.{Grid}
use Rattle.geo_core.specs.Elements.{elements_of}
use Rattle.ext_model.specs.declared.records.UseRec.{UseRec}
use Rattle.ext_model.specs.declared.records.MergeRec.{MergeRec}
use Rattle.ext_model.specs.declared.records.CellExt.{CellExt}
use Rattle.ext_model.specs.declared.arrays.ArrayUse.{ArrayUse}
use Rattle.ext_model.specs.declared.arrays.MergeRow.{MergeRow}
use Rattle.ext_model.specs.declared.arrays.ArrayExt.{ArrayExt}
use Rattle.ext_model.specs.ElementNames.{indexed_name}

-- the six numbers of what is first displaced so far, in its own coordinates, and then placed by the six numbers
abbrev pub displaced : List ℤ → ℤ → ℤ → List ℤ
displaced (a ∷ b ∷ c ∷ d ∷ e ∷ f ∷ []) dx dy = a ∷ b ∷ (a *ℤ dx +ℤ b *ℤ dy +ℤ c) ∷ d ∷ e ∷ (d *ℤ dx +ℤ e *ℤ dy +ℤ f) ∷ []
displaced six dx dy = six

-- an element of an array, of these two indices and this displacement, as a use of its own
abbrev pub element_use : ArrayUse → ℤ × ℤ × ℤ × ℤ → UseRec
element_use used element =
    record { cell = used.cell; id = indexed_name used.id element.0 element.1; six = displaced used.six element.2 element.3 }

-- the elements of a use with this grid, or without one, in order
abbrev pub uses_of_grid : ArrayUse → Option Grid → List UseRec
uses_of_grid used None = record { cell = used.cell; id = used.id; six = used.six } ∷ []
uses_of_grid used (Some grid) = map (element_use used) (elements_of grid)

abbrev pub plain_uses : ArrayUse → List UseRec
plain_uses used = uses_of_grid used used.grid

-- what stands behind the first of such bytes
abbrev pub behind : ℕ → List ℕ → List ℕ
behind mark [] = []
behind mark (byte ∷ bytes) = if byte == mark then bytes else behind mark bytes

-- what stands before it
abbrev pub before : ℕ → List ℕ → List ℕ
before mark text = before_first (λ byte. byte == mark) text

-- the number that a word writes
abbrev pub index_of : List ℕ → ℤ
index_of word = elim (number_of word) [ Ok z ↦ z | Err fault ↦ pos 0 ]

-- the index i of the first name of a path: what stands between its first opening bracket and the comma behind that
abbrev pub first_index : List ℕ → ℤ
first_index path = index_of (before 44 (behind 91 path))

-- the path with another index in its place
abbrev pub with_index : List ℕ → ℤ → List ℕ
with_index path i = before 91 path ++ 91 ∷ (decimal i ++ 44 ∷ behind 44 (behind 91 path))

-- the path with the index raised by so much
abbrev pub raised : List ℕ → ℕ → List ℕ
raised path zero = path
raised path (suc n) = with_index path (first_index path +ℤ pos (suc n))

-- the merge of this number of a row
abbrev pub plain_merge : MergeRow → ℕ → MergeRec
plain_merge row n = record { first = row.first; second = raised row.second n; cap = row.cap; measures = row.measures }

-- the merges of a row in order
abbrev pub plain_merges : MergeRow → List MergeRec
plain_merges row = map (plain_merge row) (range_with_len 0 row.count)

-- the record with the elements of its uses as uses, and the merges of its rows as merges
abbrev pub plain : ArrayExt → CellExt
plain ext = record {
  cell = ext.cell;
  tech = ext.tech;
  classes = ext.classes;
  uses = flat_map plain_uses ext.uses;
  nodes = ext.nodes;
  fets = ext.fets;
  merges = flat_map plain_merges ext.merges;
}
