-- What loads are held to.
use Rattle.std.specs.Prelude.{◌≡◌, ℕ, List}
use Rattle.outside_io.specs.Files.{Files}
use Rattle.edit_script.specs.CellLibrary.Views.{LibraryView}
use Rattle.cell_loading.specs.declared.faults.LoadFault.{LoadFault}
use Rattle.cell_loading.specs.Loads.{IsLoaded, LoadIsRefused}

-- the files of a cell and of all below it make one library, with one number of cells that came, once one list of files was asked for
abbrev pub LoadedLibrariesAreUnique : Type 0
LoadedLibrariesAreUnique =
    (files : Files) (view after other : LibraryView) (edits : ℕ) (root : List ℕ) (count more : ℕ) (fetched others : List (List ℕ))
    → IsLoaded files view after edits root count fetched → IsLoaded files view other edits root more others
    → (after ≡ other) × (count ≡ more) × (fetched ≡ others)

-- or they are refused for one fault
abbrev pub RefusedLoadsAreUnique : Type 0
RefusedLoadsAreUnique =
    (files : Files) (view : LibraryView) (edits : ℕ) (root : List ℕ) (fetched others : List (List ℕ)) (fault other : LoadFault)
    → LoadIsRefused files view edits root fetched fault → LoadIsRefused files view edits root others other → (fetched ≡ others) × (fault ≡ other)

-- and not both
abbrev pub LoadedCellsAreNotRefused : Type 0
LoadedCellsAreNotRefused =
    (files : Files) (view after : LibraryView) (edits : ℕ) (root : List ℕ) (count : ℕ) (fetched others : List (List ℕ)) (fault : LoadFault)
    → IsLoaded files view after edits root count fetched → ¬ (LoadIsRefused files view edits root others fault)
