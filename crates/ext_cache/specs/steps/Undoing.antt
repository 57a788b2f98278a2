-- What new records replaced, and how it is put back.
use Rattle.std.specs.Prelude.{◌≡◌, ℕ, List, [], ◌∷◌, Option, Some, None}
use Rattle.std.specs.FinMap as fin_map
use Rattle.std.specs.Ordering.{nat_cmp}
use Rattle.ext_model.specs.declared.arrays.ArrayExt.{ArrayExt}
use Rattle.ext_model.specs.declared.tables.ExtEntry.{ExtEntry}
use Rattle.ext_cache.specs.declared.undo.Undo.{Undo}
use Rattle.ext_cache.specs.Caches.{Records, entry_in, with_record}

-- what a new record of the cell would replace
abbrev pub undo_of : Records → ℕ → Undo
undo_of records cell = record { cell = record { 0 = cell }; entry = entry_in records cell; made = records.made }

-- the entries where the cell has this one, or none
abbrev pub with_entry : fin_map.FinMap nat_cmp ExtEntry → ℕ → Option ExtEntry → fin_map.FinMap nat_cmp ExtEntry
with_entry entries cell None = fin_map.remove entries cell
with_entry entries cell (Some entry) = fin_map.insert entries cell entry

-- the records where what one of them replaced is put back
abbrev pub undone : Records → Undo → Records
undone records undo = record { entries = with_entry records.entries undo.cell.0 undo.entry; made = undo.made }

-- New records were kept, one after another, and the log tells of each what it replaced.
abbrev pub IsLogOf : Records → List Undo → Records → Type 0
IsLogOf before [] records = records ≡ before
IsLogOf before (undo ∷ log) records =
    (ext : ArrayExt) × (stamp : ℕ) × (undo ≡ undo_of before undo.cell.0) × IsLogOf (with_record before undo.cell.0 ext stamp) log records
