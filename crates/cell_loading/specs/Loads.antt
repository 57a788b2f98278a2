-- What a load makes of a library, and what refuses it.
use Rattle.std.specs.Prelude.{◌≡◌, ◌⊎◌, ◌<◌, ℕ, suc, List, [], ◌∷◌, length, IsSome}
use Rattle.outside_io.specs.Files.{Files}
use Rattle.session_model.specs.declared.report.LineKind.{LineKind}
use Rattle.session_model.specs.declared.report.LineKind.TheVariants.{Refusal}
use Rattle.session_model.specs.declared.report.Cause.{Cause}
use Rattle.session_model.specs.declared.report.Cause.TheVariants.{Inside}
use Rattle.session_model.specs.Fetches.{cause_of_fault}
use Rattle.session_model.specs.FileTrees.{All, FileIsRefused, Reads, fetched_by}
use Rattle.mag_text.specs.TechModel.declared.raw.RawTech.{RawTech}
use Rattle.mag_text.specs.CellBodies.declared.bodies.CellBody.{CellBody}
use Rattle.mag_text.specs.CellLibrary.declared.faults.LibFault.{LibFault}
use Rattle.mag_text.specs.CellLibrary.declared.faults.LibFault.TheVariants as library
use Rattle.mag_text.specs.CellLibrary.Additions.{AddAllIsRefused, with_all}
use Rattle.mag_text.specs.CellLibrary.Libraries.{LibraryParts, IsSame, seen, edits_of}
use Rattle.mag_text.specs.CellLibrary.Refusals.{EditIsRefused}
use Rattle.mag_text.specs.CellLibrary.Views.{LibraryView, cell_named}
use Rattle.mag_text.specs.MagTexts.{HasAllOf}
use Rattle.cell_loading.specs.declared.faults.LoadFault.{LoadFault}
use Rattle.cell_loading.specs.declared.faults.LoadFault.TheVariants as fault
use Rattle.cell_loading.specs.declared.loading.Loaded.{Loaded}
use Rattle.cell_loading.specs.declared.loading.Loaded.TheVariants as loaded
use Rattle.cell_loading.specs.CellFiles.{ReadCell}
use Rattle.cell_loading.specs.Readings.{cell_files}

-- Each body has the name of a cell that was read, and what its text says: its paint is that of the rectangles, painted in order.
abbrev pub AreBodiesOf : RawTech → List ReadCell → List (List ℕ × CellBody) → Type 0
AreBodiesOf raw [] [] = Unit {0}
AreBodiesOf raw [] (body ∷ bodies) = ⊥
AreBodiesOf raw (cell ∷ read) [] = ⊥
AreBodiesOf raw (cell ∷ read) (body ∷ bodies) = (body.0 ≡ cell.0) × HasAllOf raw cell.1 body.1 × AreBodiesOf raw read bodies

-- All files below the root were read, and these are the bodies of their cells.
pub record AreRead (files : Files) (view : LibraryView) (root : List ℕ) (bodies : List (List ℕ × CellBody)) : Type 0 where
  pub read : List ReadCell
  pub reads : Reads (cell_files view) files [] (root ∷ []) (All read)
  pub are_bodies : AreBodiesOf view.tech read bodies

-- The cells of the files came to the library, in the order in which the files were read.
pub record IsLoaded (files : Files) (view after : LibraryView) (edits : ℕ) (root : List ℕ) (count : ℕ) (fetched : List (List ℕ)) : Type 0 where
  pub new : IsSome (cell_named view root) → ⊥
  pub bodies : List (List ℕ × CellBody)
  pub are_read : AreRead files view root bodies
  pub may_come : (refused : LibFault) → EditIsRefused edits (AddAllIsRefused view bodies) refused → ⊥
  pub after_is : after ≡ with_all view bodies
  pub count_is : count ≡ length bodies
  pub fetched_are : fetched ≡ fetched_by (cell_files view) (All are_read.read)

-- the fault of a load for which a library refuses the cells; no other refuses cells that come
abbrev pub end_fault : LibFault → LoadFault
end_fault library.OutOfRange = fault.OutOfRange
end_fault (library.Cycle name) = fault.Cycle name
end_fault (library.TooMany limit) = fault.TooMany limit
end_fault _ = fault.Memory

-- all files were read, and the library refuses their cells
pub record CellsAreRefused (files : Files) (view : LibraryView) (edits : ℕ) (root : List ℕ) (fetched : List (List ℕ)) (told : LoadFault) : Type 0 where
  pub bodies : List (List ℕ × CellBody)
  pub are_read : AreRead files view root bodies
  pub refused : LibFault
  pub is_refused : EditIsRefused edits (AddAllIsRefused view bodies) refused
  pub is : told ≡ end_fault refused
  pub fetched_are : fetched ≡ fetched_by (cell_files view) (All are_read.read)

-- What refuses a load: there is a cell of the name; or the first file that is refused, since it is not there or too long, or its text has a
-- fault, or another scale, or too much; or else the cells as a whole.
abbrev pub LoadIsRefused : Files → LibraryView → ℕ → List ℕ → List (List ℕ) → LoadFault → Type 0
LoadIsRefused files view edits root fetched told =
    (IsSome (cell_named view root) × (told ≡ fault.CellExists root) × (fetched ≡ []))
    ⊎ ((IsSome (cell_named view root) → ⊥)
    × (FileIsRefused (cell_files view) files root fetched told ⊎ CellsAreRefused files view edits root fetched told))

-- What a load answers is so, and these names were fetched.
abbrev pub LoadGives : Files → LibraryParts → LibraryParts → List ℕ → Loaded → List (List ℕ) → Type 0
LoadGives files old new root (loaded.Cells count) fetched =
    (edits_of new ≡ suc (edits_of old)) × IsLoaded files (seen old) (seen new) (edits_of old) root count fetched
LoadGives files old new root (loaded.Refused told) fetched = LoadIsRefused files (seen old) (edits_of old) root fetched told

-- a load that is refused changes nothing
abbrev pub KeepsIfRefused : LibraryParts → LibraryParts → Loaded → Type 0
KeepsIfRefused old new (loaded.Cells count) = Unit {0}
KeepsIfRefused old new (loaded.Refused told) = IsSame old new

-- there are more cells after a load, so the first that came is one of them
abbrev pub HasMoreIfLoaded : LibraryParts → LibraryParts → Loaded → Type 0
HasMoreIfLoaded old new (loaded.Cells count) = length old.contents < length new.contents
HasMoreIfLoaded old new (loaded.Refused told) = Unit {0}

-- what a refusal comes from: a file that is not there or too long, or from inside
abbrev pub cause_of_load : LoadFault → Cause
cause_of_load (fault.File file refused) = cause_of_fault refused
cause_of_load _ = Inside

-- the kinds of the lines that a load makes for being refused
abbrev pub kinds_of_loaded : Loaded → List LineKind
kinds_of_loaded (loaded.Cells count) = []
kinds_of_loaded (loaded.Refused told) = Refusal (cause_of_load told) ∷ []
