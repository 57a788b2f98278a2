-- What trees of circuit files are held to.
use Rattle.std.specs.Prelude.{◌≡◌, ℕ, List}
use Rattle.outside_io.specs.Files.{Files}
use Rattle.ext_model.specs.declared.arrays.ArrayExt.{ArrayExt}
use Rattle.circuit_commands.specs.ExtLoading.declared.faults.ExtLoadFault.{ExtLoadFault}
use Rattle.circuit_commands.specs.ExtLoading.Loads.{AreRead, LoadIsRefused}

-- the files of a tree give one list of records
abbrev pub CircuitTreesAreUnique : Type 0
CircuitTreesAreUnique =
    (files : Files) (root : List ℕ) (read others : List ArrayExt) → AreRead files root read → AreRead files root others → read ≡ others

-- or they are refused for one fault, once one list of files was asked for
abbrev pub RefusedTreesAreUnique : Type 0
RefusedTreesAreUnique =
    (files : Files) (root : List ℕ) (fetched others : List (List ℕ)) (fault other : ExtLoadFault) → LoadIsRefused files root fetched fault
    → LoadIsRefused files root others other → (fetched ≡ others) × (fault ≡ other)

-- and not both
abbrev pub ReadTreesAreNotRefused : Type 0
ReadTreesAreNotRefused =
    (files : Files) (root : List ℕ) (read : List ArrayExt) (fetched : List (List ℕ)) (fault : ExtLoadFault) → AreRead files root read
    → ¬ (LoadIsRefused files root fetched fault)
