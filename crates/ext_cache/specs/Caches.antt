-- The records that are kept of a library's cells, which cells are dirty, and what an extraction does.
use Rattle.std.specs.Prelude.{◌≡◌, ◌⊎◌, ◌<◌, ◌≤◌, ◌==◌, nat_lt, not, if◌then◌else◌, ℕ, suc, ◌+◌, ◌*◌, Bool, true, List, [], ◌∷◌, length, filter, map}
use Rattle.std.specs.Prelude.{Option, Some, None, option_map, refl}
use Rattle.std.specs.List.{range_with_len}
use Rattle.std.specs.Coded.{Coded, code_by, coded×, coded_ℕ}
use Rattle.std.specs.FinMap as fin_map
use Rattle.std.specs.Ordering.{nat_cmp}
use Rattle.ext_model.specs.declared.arrays.ArrayExt.{ArrayExt}
use Rattle.ext_model.specs.declared.tables.ExtEntry.{ExtEntry}
use Rattle.ext_model.specs.contracts.tables.ExtEntry.{the_row as entry_row}
use Rattle.ext_model.specs.LawfulArrays.{IsLawfulArrayExt}
use Rattle.tree_merges.specs.Names.Attachments.{AreUnattached}
use Rattle.tree_merges.specs.CellTree.Trees.{stamp_at}
use Rattle.tree_merges.specs.CellLibrary.Libraries.{LibraryParts, seen}
use Rattle.tree_merges.specs.CellLibrary.Views.{LibraryView, view_at}
use Rattle.use_orders.specs.LibraryOrder.{IsLibraryOrder}
use Rattle.hierarchy_model.specs.CleanCells.{IsClean}
use Rattle.tree_merges.specs.CellLibrary.Additions.{children_in}
use Rattle.tree_merges.specs.CellLibrary.LayoutTrees.{tree_at}
use Rattle.tree_merges.specs.ElementPaths.LibraryTrees.CellRecords.{IsRecordOf}
use Rattle.tree_merges.specs.HierMerge.Interactions.{IsWork}
use Rattle.ext_cache.specs.declared.extraction.Extracted.{Extracted}
use Rattle.ext_cache.specs.declared.limits.TheConstants.{LAST_SERIAL}

-- the entries of cells by their positions, and how many records were made
pub record Records : Type 0 where
  pub entries : fin_map.FinMap nat_cmp ExtEntry
  pub made : ℕ

-- they are stored as the pair of them
abbrev pub records_code : Coded Records
records_code =
    code_by (fin_map.FinMap nat_cmp ExtEntry × ℕ) (coded× (fin_map.code coded_ℕ entry_row.coded) coded_ℕ) (λ records. (records.entries, records.made))
    (λ pair. record { entries = pair.0; made = pair.1 }) (λ _. refl)

abbrev pub no_records : Records
no_records = record { entries = fin_map.empty; made = 0 }

-- the entry of a cell
abbrev pub entry_in : Records → ℕ → Option ExtEntry
entry_in records cell = fin_map.get records.entries cell

-- the record of a cell
abbrev pub record_in : Records → ℕ → Option ArrayExt
record_in records cell = option_map (λ entry. entry.ext) (entry_in records cell)

-- the serial of the record of a cell
abbrev pub serial_in : Records → ℕ → Option ℕ
serial_in records cell = option_map (λ entry. entry.serial) (entry_in records cell)

-- the stamp that a cell has now
abbrev pub stamp_in : LibraryParts → ℕ → ℕ
stamp_in library cell = stamp_at library.tree.stamps cell

-- The cell is clean, and the record is that of the cell as it is.
pub record IsRecordNow (view : LibraryView) (cell : ℕ) (ext : ArrayExt) : Type 0 where
  pub clean : IsClean view.tech (tree_at view cell)
  pub is : IsRecordOf view cell ext
  pub lawful : IsLawfulArrayExt ext

-- Records are kept of cells of the library alone, none is of a later stamp than its cell has, one of its cell's stamp is that of the cell as
-- it is, and none has a serial above the count of those that were made.
pub record Agrees (library : LibraryParts) (records : Records) : Type 0 where
  pub known : (cell : ℕ) (entry : ExtEntry) → entry_in records cell ≡ Some entry → cell < length library.contents
  pub past : (cell : ℕ) (entry : ExtEntry) → entry_in records cell ≡ Some entry → entry.stamp ≤ stamp_in library cell
  pub now : (cell : ℕ) (entry : ExtEntry) → entry_in records cell ≡ Some entry → entry.stamp ≡ stamp_in library cell
      → IsRecordNow (seen library) cell entry.ext
  pub serials : (cell : ℕ) (entry : ExtEntry) → entry_in records cell ≡ Some entry → entry.serial ≤ records.made

-- the entry is missing, or of an earlier stamp
abbrev pub is_stale : Option ExtEntry → ℕ → Bool
is_stale None stamp = true
is_stale (Some entry) stamp = not (entry.stamp == stamp)

-- The cell was never extracted, or an edit since then changed it or a cell below it. What is no cell was never extracted.
abbrev pub is_dirty : LibraryParts → Records → ℕ → Bool
is_dirty library records cell = is_stale (entry_in records cell) (stamp_in library cell)

-- the serial of the next record, where so many were made; the count stands still at the last
abbrev pub next_serial : ℕ → ℕ
next_serial made = if nat_lt made LAST_SERIAL then suc made else made

-- the records with this one of a cell, which has the next serial
abbrev pub with_record : Records → ℕ → ArrayExt → ℕ → Records
with_record records cell ext stamp = record {
  entries = fin_map.insert records.entries cell (record { ext = ext; serial = next_serial records.made; stamp = stamp });
  made = next_serial records.made;
}

-- A record is made of each of these cells, one after another, and of each is told which of its labels name nothing.
abbrev pub MakesRecords : LibraryParts → List ℕ → Records → Records → List Extracted → Type 0
MakesRecords library [] records after told = (after ≡ records) × (told ≡ [])
MakesRecords library (cell ∷ cells) records after told =
    (ext : ArrayExt) × (unattached : List (List ℕ)) × (rest : List Extracted)
    × IsRecordNow (seen library) cell ext
    × AreUnattached (seen library).tech (view_at (seen library) cell).own (view_at (seen library) cell).labels unattached
    × (told ≡ record { cell = record { 0 = cell }; unattached = unattached } ∷ rest)
    × MakesRecords library cells (with_record records cell ext (stamp_in library cell)) after rest

-- those of the cells that are dirty, in their order
abbrev pub dirty_cells : LibraryParts → Records → List ℕ → List ℕ
dirty_cells library records cells = filter (is_dirty library records) cells

-- What an extraction does: it makes a record of each dirty cell at and below the root, in library order, and of no other.
pub record Extracts (library : LibraryParts) (records : Records) (root : ℕ) (after : Records) (told : List Extracted) : Type 0 where
  pub order : List ℕ
  pub is_order : IsLibraryOrder (children_in (seen library)) root order
  pub makes : MakesRecords library (dirty_cells library records order) records after told

-- So many more records can be made before the count comes to its end.
abbrev pub HasSerialsFor : Records → ℕ → Type 0
HasSerialsFor records more = records.made + more ≤ LAST_SERIAL

-- Exactly the dirty cells at and below the root were told, in library order, and the count rose by their number, where it does not come to its
-- end.
pub record IsCounted (library : LibraryParts) (before : Records) (root : ℕ) (after : Records) (told : List Extracted) : Type 0 where
  pub order : List ℕ
  pub is_order : IsLibraryOrder (children_in (seen library)) root order
  pub cells : map (λ one. one.cell.0) told ≡ dirty_cells library before order
  pub made : HasSerialsFor before (length told) → after.made ≡ before.made + length told

-- Each record that is kept was its cell's before, or has a serial above the count before, which no record had then. The cells that were told
-- have the serials that follow that count, one after another.
pub record HasNewSerials (before after : Records) (told : List Extracted) : Type 0 where
  pub each : (cell : ℕ) (entry : ExtEntry) → entry_in after cell ≡ Some entry → (entry_in before cell ≡ Some entry) ⊎ (before.made < entry.serial)
  pub in_order : map (λ one. serial_in after one.cell.0) told ≡ map Some (range_with_len (before.made + 1) (length told))

-- The steps that records of these cells may take: for each, two for each tile where its parts interact, and two.
abbrev pub IsWorkOfAll : LibraryView → List ℕ → ℕ → Type 0
IsWorkOfAll view [] work = work ≡ 0
IsWorkOfAll view (cell ∷ cells) work =
    (own : ℕ) × (rest : ℕ) × IsWork view cell own × IsWorkOfAll view cells rest × (work ≡ 2 * own + 2 + rest)

-- An extraction of the root takes no more steps than these: those for the dirty cells at and below it.
pub record IsWorkOfExtraction (library : LibraryParts) (records : Records) (root work : ℕ) : Type 0 where
  pub order : List ℕ
  pub is_order : IsLibraryOrder (children_in (seen library)) root order
  pub is_work : IsWorkOfAll (seen library) (dirty_cells library records order) work
