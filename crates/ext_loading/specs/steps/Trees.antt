-- Records that are read: what each has to be, what holds of them on the way, and what they are at the end.
use Rattle.std.specs.Prelude.{◌≡◌, ◌⊎◌, ◌<◌, ◌+◌, ◌-◌, ◌*◌, ◌^◌, ℕ, List, ◌++◌, length, slice_index_or}
use Rattle.finite_sets.specs.Lists.{In}
use Rattle.ext_model.specs.declared.arrays.ArrayExt.{ArrayExt}
use Rattle.ext_model.specs.LawfulArrays.{IsLawfulArrayExt}
use Rattle.plain_records.specs.Plains.{AreArrayRecords}
use Rattle.use_orders.specs.NewCells.{IsOwnDescendant}
use Rattle.ext_loading.specs.declared.faults.ExtLoadFault.TheVariants as fault
use Rattle.ext_loading.specs.declared.limits.TheConstants.{MOST_READ_CELLS}
use Rattle.ext_loading.specs.declared.loading.LoadedExts.{LoadedExts}
use Rattle.ext_loading.specs.declared.loading.LoadedExts.TheVariants.{Records, Refused}
use Rattle.ext_loading.specs.ExtFiles.{cells_read}
use Rattle.ext_loading.specs.Loads.{children_in, IsFirstBelowItself}
use Rattle.ext_loading.specs.Readings.{cells_used}

-- A record that may follow these: it is lawful and of the cell of this name, and there is room for it.
pub record MayFollow (read : List ArrayExt) (name : List ℕ) (ext : ArrayExt) : Type 0 where
  pub lawful : IsLawfulArrayExt ext
  pub cell : ext.cell ≡ name
  pub room : length read < MOST_READ_CELLS

-- the name is that of the root, or of a cell that one of the records uses
abbrev pub IsAskedFor : List ℕ → List ArrayExt → List ℕ → Type 0
IsAskedFor root read name = (root ≡ name) ⊎ ((ext : ArrayExt) × (In ext read × In name (cells_used ext)))

-- What holds of the records that were read where these names are left: they are lawful and of different cells, and each cell that was asked
-- for was read or is left.
pub record AreSoFar (root : List ℕ) (read : List ArrayExt) (left : List (List ℕ)) : Type 0 where
  pub records : AreArrayRecords read
  pub asked : (name : List ℕ) → IsAskedFor root read name → In name (cells_read read ++ left)

-- The records are those of a tree: they are lawful and of different cells, and each cell that is asked for has one.
pub record IsTree (root : List ℕ) (read : List ArrayExt) : Type 0 where
  pub records : AreArrayRecords read
  pub asked : (name : List ℕ) → IsAskedFor root read name → In name (cells_read read)

-- A bound on how many names are still taken: each record that may still come counts for more than all names that a vector can have.
abbrev pub work_left : List ArrayExt → List (List ℕ) → ℕ
work_left read left = (MOST_READ_CELLS - length read) * 2 ^ 64 + length left

-- What is given of a tree whose files were read: its records where no cell stands below itself, or else the first that does.
abbrev pub GivesTree : List ArrayExt → LoadedExts → Type 0
GivesTree read (Records exts) = (exts.items ≡ read) × ((cell : ℕ) → IsOwnDescendant (children_in read) 0 cell → ⊥)
GivesTree read (Refused told) =
    (ext : ArrayExt) × ((cell : ℕ) × (IsFirstBelowItself read cell × (told ≡ fault.Cycle (slice_index_or read cell ext).cell)))
