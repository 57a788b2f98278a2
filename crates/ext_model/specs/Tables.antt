-- What a contract sees of a table of records of cells.
use Rattle.std.specs.Prelude.{◌⊎◌, ◌≤◌, ℕ, Option, IsSome, option_map, refl}
use Rattle.std.specs.Ordering.{nat_cmp}
use Rattle.std.specs.FinMap as fin_map
use Rattle.std.specs.Coded.{Coded, code_by, coded×, coded_ℕ}
use Rattle.ext_model.specs.declared.arrays.ArrayExt.{ArrayExt}
use Rattle.ext_model.specs.declared.tables.CellKey.{CellKey}
use Rattle.ext_model.specs.declared.tables.ExtEntry.{ExtEntry}

-- the entry under the number of each cell that has one, and how many more cells there is room for
pub record Table : Type 0 where
  pub entries : fin_map.FinMap nat_cmp ExtEntry
  pub spare : ℕ

-- a table is stored as the pair of its fields
abbrev pub table_code : Coded ExtEntry → Coded Table
table_code code =
    code_by (fin_map.FinMap nat_cmp ExtEntry × ℕ) (coded× (fin_map.code coded_ℕ code) coded_ℕ) (λ table. (table.entries, table.spare))
    (λ pair. record { entries = pair.0; spare = pair.1 }) (λ _. refl)

-- the entry of a cell
abbrev pub entry_of : Table → CellKey → Option ExtEntry
entry_of table cell = fin_map.get table.entries cell.0

-- the record of a cell
abbrev pub ext_of : Table → CellKey → Option ArrayExt
ext_of table cell = option_map (λ entry. entry.ext) (entry_of table cell)

-- the stamp that a cell had when its record was made
abbrev pub stamp_of : Table → CellKey → Option ℕ
stamp_of table cell = option_map (λ entry. entry.stamp) (entry_of table cell)

-- An entry can be put under the cell: it has one that is replaced, or there is room for one more.
abbrev pub HasRoomFor : Table → CellKey → Type 0
HasRoomFor table cell = IsSome (entry_of table cell) ⊎ (1 ≤ table.spare)
