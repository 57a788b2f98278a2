-- Tables of uses by the names of their elements.
use Rattle.std.specs.Prelude.{◌≡◌, ℕ, Option, Some, None, List, length, slice_get}
use Rattle.std.specs.Str.{bytes_eq}
use Rattle.std.specs.HashMap.{get_by}
use Rattle.partition.specs.FiniteSets.Lists.{In}
use Rattle.ext_model.specs.declared.records.UseRec.{UseRec}
use Rattle.ext_model.specs.declared.records.CellExt.{CellExt}
use Rattle.name_classes.specs.declared.tables.UseTable.{UseTable}

-- the number under an element's name
abbrev pub number_of : UseTable → List ℕ → Option ℕ
number_of table id = get_by (λ key. bytes_eq id key.now) table.numbers

-- The use with this number has this name.
pub record HasUseAt (uses : List UseRec) (number : ℕ) (id : List ℕ) : Type 0 where
  pub used : UseRec
  pub found : slice_get uses number ≡ Some used
  pub named : used.id ≡ id

-- The table has a number of each name that a use has, and no other name.
pub record IsTableOf (uses : List UseRec) (table : UseTable) : Type 0 where
  pub sound : (id : List ℕ) (number : ℕ) → number_of table id ≡ Some number → HasUseAt uses number id
  pub whole : (id : List ℕ) → number_of table id ≡ None → (used : UseRec) → In used uses → used.id ≡ id → ⊥

-- each record has its table
pub record AreUseTables (exts : List CellExt) (tables : List UseTable) : Type 0 where
  pub long : length tables ≡ length exts
  pub each : (cell : ℕ) (ext : CellExt) (table : UseTable) → slice_get exts cell ≡ Some ext → slice_get tables cell ≡ Some table
      → IsTableOf ext.uses table
