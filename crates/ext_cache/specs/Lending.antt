-- Records that were lent, and what stands in their places.
use Rattle.std.specs.Prelude.{◌≡◌, ℕ, List, [], ◌∷◌, ◌++◌, Some}
use Rattle.std.specs.FinMap as fin_map
use Rattle.ext_model.specs.declared.arrays.ArrayExt.{ArrayExt}
use Rattle.ext_model.specs.declared.tables.ExtEntry.{ExtEntry}
use Rattle.ext_cache.specs.declared.lending.LentNote.{LentNote}
use Rattle.ext_cache.specs.Caches.{Records, entry_in}

-- the entry of a record with what it is kept with
abbrev pub entry_with : ArrayExt → LentNote → ExtEntry
entry_with ext note = record { ext = ext; serial = note.serial; stamp = note.stamp }

-- the records with this entry of a cell
abbrev pub replaced : Records → ℕ → ExtEntry → Records
replaced records cell entry = record { entries = fin_map.insert records.entries cell entry; made = records.made }

-- The records of cells were lent, one after another, and something stands in the place of each.
abbrev pub AreLent : Records → List ArrayExt → List LentNote → Records → Type 0
AreLent before [] [] records = records ≡ before
AreLent before [] (note ∷ notes) records = ⊥
AreLent before (ext ∷ exts) [] records = ⊥
AreLent before (ext ∷ exts) (note ∷ notes) records =
    (other : ExtEntry) × (entry_in before note.cell.0 ≡ Some (entry_with ext note)) × AreLent (replaced before note.cell.0 other) exts notes records

-- The record of the cell was lent besides.
pub record LendsOne (before : Records) (cell : ℕ) (exts : List ArrayExt) (notes : List LentNote) (more : List ArrayExt) (longer : List LentNote)
    (records : Records) : Type 0 where
  pub ext : ArrayExt
  pub note : LentNote
  pub of : note.cell.0 ≡ cell
  pub other : ExtEntry
  pub entry : entry_in before cell ≡ Some (entry_with ext note)
  pub exts_are : more ≡ exts ++ ext ∷ []
  pub notes_are : longer ≡ notes ++ note ∷ []
  pub is : records ≡ replaced before cell other
