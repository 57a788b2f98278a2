-- What reading a tree of circuit files gives, and what refuses it.
use Rattle.std.specs.Prelude.{◌≡◌, ◌⊎◌, ◌≤◌, ℕ, List, [], ◌∷◌, map, slice_index_or, Some, None}
use Rattle.std.specs.List.{position_or_len}
use Rattle.std.specs.Str.{bytes_eq}
use Rattle.finite_sets.specs.Least.{IsLeast}
use Rattle.use_orders.specs.NewCells.{IsOwnDescendant}
use Rattle.outside_io.specs.Files.{Files}
use Rattle.session_model.specs.declared.report.Cause.{Cause}
use Rattle.session_model.specs.declared.report.Cause.TheVariants.{Inside}
use Rattle.session_model.specs.declared.report.LineKind.{LineKind}
use Rattle.session_model.specs.declared.report.LineKind.TheVariants.{Refusal}
use Rattle.session_model.specs.Fetches.{cause_of_fault}
use Rattle.session_model.specs.FileTrees.{All, FileIsRefused, Reads, fetched_by}
use Rattle.ext_model.specs.declared.records.CellExt.{CellExt}
use Rattle.ext_model.specs.declared.arrays.ArrayExt.{ArrayExt}
use Rattle.plain_records.specs.CircuitModel.Elements.{ext_of}
use Rattle.plain_records.specs.CircuitModel.Refusals.{walk_fault}
use Rattle.plain_records.specs.Plains.{AreArrayRecords, plains}
use Rattle.ext_loading.specs.declared.faults.ExtLoadFault.{ExtLoadFault}
use Rattle.ext_loading.specs.declared.faults.ExtLoadFault.TheVariants as fault
use Rattle.ext_loading.specs.declared.loading.LoadedExts.{LoadedExts}
use Rattle.ext_loading.specs.declared.loading.LoadedExts.TheVariants.{Records, Refused}
use Rattle.ext_loading.specs.ExtFiles.{cells_read}
use Rattle.ext_loading.specs.Readings.{cells_used, circuit_files}

-- the cells that a record uses, by the positions of their records
abbrev pub positions_used : List ArrayExt → ArrayExt → List ℕ
positions_used read ext = map (λ name. position_or_len (bytes_eq name) (cells_read read)) (cells_used ext)

-- for each record the positions of those that it uses, in the order of its uses
abbrev pub children_in : List ArrayExt → List (List ℕ)
children_in read = map (positions_used read) read

-- the record at this position is of the first cell, in the order of reading, that stands below itself
abbrev pub IsFirstBelowItself : List ArrayExt → ℕ → Type 0
IsFirstBelowItself read cell = IsLeast ◌≤◌ (IsOwnDescendant (children_in read) 0) cell

-- All files at and below the root were read, and no cell stands below itself.
pub record AreRead (files : Files) (root : List ℕ) (read : List ArrayExt) : Type 0 where
  pub reads : Reads circuit_files files [] (root ∷ []) (All read)
  pub acyclic : (cell : ℕ) → IsOwnDescendant (children_in read) 0 cell → ⊥

-- All files were read, and a cell stands below itself.
pub record TreeIsRefused (files : Files) (root : List ℕ) (fetched : List (List ℕ)) (told : ExtLoadFault) : Type 0 where
  pub read : List ArrayExt
  pub reads : Reads circuit_files files [] (root ∷ []) (All read)
  pub ext : ArrayExt
  pub cell : ℕ
  pub first : IsFirstBelowItself read cell
  pub is : told ≡ fault.Cycle (slice_index_or read cell ext).cell
  pub fetched_are : fetched ≡ fetched_by circuit_files (All read)

-- What refuses a tree: the first file that is refused, since it is not there or too long, its text has a fault, or there would be too many
-- cells; or else a cell that stands below itself.
abbrev pub LoadIsRefused : Files → List ℕ → List (List ℕ) → ExtLoadFault → Type 0
LoadIsRefused files root fetched told = FileIsRefused circuit_files files root fetched told ⊎ TreeIsRefused files root fetched told

-- What reading a tree gives is so, and these names were fetched.
abbrev pub LoadGives : Files → List ℕ → LoadedExts → List (List ℕ) → Type 0
LoadGives files root (Records exts) fetched = AreRead files root exts.items × (fetched ≡ fetched_by circuit_files (All exts.items))
LoadGives files root (Refused told) fetched = LoadIsRefused files root fetched told

-- The records may be flattened at the root: they are lawful, no two are of one cell, and of their plain forms the root's is among them, and
-- each use leads to one of them and none back.
pub record CanBeFlattened (root : List ℕ) (exts : List ArrayExt) : Type 0 where
  pub records : AreArrayRecords exts
  pub top : CellExt
  pub found : ext_of (plains exts) root ≡ Some top
  pub leads : walk_fault (plains exts) top ≡ None

abbrev pub IsFitTree : List ℕ → LoadedExts → Type 0
IsFitTree root (Records exts) = CanBeFlattened root exts.items
IsFitTree root (Refused told) = Unit {0}

-- what a refusal comes from: a file that is not there or too long, or from inside
abbrev pub cause_of_load : ExtLoadFault → Cause
cause_of_load (fault.File file refused) = cause_of_fault refused
cause_of_load _ = Inside

-- the kinds of the lines that reading makes for being refused
abbrev pub kinds_of_loaded : LoadedExts → List LineKind
kinds_of_loaded (Records exts) = []
kinds_of_loaded (Refused told) = Refusal (cause_of_load told) ∷ []
