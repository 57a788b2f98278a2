-- What a log of edits keeps: the inverses of edits, and to which versions they lead.
use Rattle.std.specs.Prelude.{◌≡◌, ◌<◌, ◌≤◌, ℕ, true, All, List, [], ◌∷◌, ◌++◌, length, Some}
use Rattle.geo_core.specs.Areas.{IsNear}
use Rattle.geo_core.specs.Covering.{IsProper}
use Rattle.tech_model.specs.declared.raw.RawTech.{RawTech}
use Rattle.cell_paint.specs.Paints.{IsSoundPaint}
use Rattle.cell_paint.specs.Pieces.{CanStandIn, with_pieces}
use Rattle.edit_script.specs.CellLibrary.Edits.{labelled, moved, without_use}
use Rattle.edit_script.specs.CellLibrary.Libraries.{LibraryParts, IsNextEdit, seen}
use Rattle.edit_script.specs.CellLibrary.Refusals.{has_id}
use Rattle.edit_script.specs.CellLibrary.LawfulViews.{IsLawfulView}
use Rattle.edit_script.specs.CellLibrary.Restorations.{regridded, relabelled, repainted, with_use_at, without_last_label}
use Rattle.edit_script.specs.CellLibrary.Views.{CellView, LibraryView, view_at}
use Rattle.undo_log.specs.declared.changes.Change.{Change}
use Rattle.undo_log.specs.declared.changes.Change.TheVariants.{Repaint, InsertUse, DeleteUse, MoveUse, SetGrid, AddLabel, DropLabel, SetLabels}
use Rattle.undo_log.specs.declared.changes.Inverse.{Inverse}
use Rattle.undo_log.specs.Versions.{Return, Version, Versions, returned, version_of}

-- ---- changes

-- what a change of a cell makes of a library
abbrev pub changed : LibraryView → ℕ → Change → LibraryView
changed view cell (Repaint area pieces) = repainted view cell area pieces
changed view cell (InsertUse at id used) = with_use_at view cell at id used
changed view cell (DeleteUse id) = without_use view cell id
changed view cell (MoveUse id dx dy) = moved view cell id dx dy
changed view cell (SetGrid id grid) = regridded view cell id grid
changed view cell (AddLabel label) = labelled view cell label
changed view cell DropLabel = without_last_label view cell
changed view cell (SetLabels labels) = relabelled view cell labels

-- What a change of a cell speaks of is there, and is of its form: pieces can stand in their area, and leave paint that a cell may have; a use
-- has the id, or may come to the place; and there is a label that may go.
abbrev pub SpeaksOf : RawTech → CellView → Change → Type 0
SpeaksOf raw body (Repaint area pieces) =
    IsProper area × IsNear area × CanStandIn area (length raw.planes) pieces × IsSoundPaint raw.types (with_pieces area pieces body.own)
SpeaksOf raw body (InsertUse at id used) = at ≤ length body.uses
SpeaksOf raw body (DeleteUse id) = has_id body.uses id ≡ true
SpeaksOf raw body (MoveUse id dx dy) = has_id body.uses id ≡ true
SpeaksOf raw body (SetGrid id grid) = has_id body.uses id ≡ true
SpeaksOf raw body (AddLabel label) = Unit {0}
SpeaksOf raw body DropLabel = 0 < length body.labels
SpeaksOf raw body (SetLabels labels) = Unit {0}

-- A change of a cell can be made: there is the cell and what the change speaks of, and the library is lawful after it.
pub record CanBeMade (view : LibraryView) (cell : ℕ) (change : Change) : Type 0 where
  pub there : cell < length view.cells
  pub speaks : SpeaksOf view.tech (view_at view cell) change
  pub lawful : IsLawfulView (changed view cell change)

-- A change of a cell takes a library back: it can be made of the one after it, and gives the one before.
pub record TakesBack (before after : LibraryView) (cell : ℕ) (change : Change) : Type 0 where
  pub there : cell < length after.cells
  pub speaks : SpeaksOf after.tech (view_at after cell) change
  pub is : changed after cell change ≡ before

-- ---- logs

-- The inverses of the edits that are done, and those that take back what was taken back, in each the latest first.
pub record Inverses : Type 0 where
  pub done : List Inverse
  pub undone : List Inverse

-- no edits
abbrev pub no_inverses : Inverses
no_inverses = record { done = []; undone = [] }

-- The inverses lead from the library to these versions, one after another: each can be made of the library to which those before it lead,
-- and gives its cell the version.
abbrev pub LeadTo : LibraryView → List Inverse → List Version → Type 0
LeadTo view [] [] = Unit {0}
LeadTo view [] (version ∷ versions) = ⊥
LeadTo view (inverse ∷ inverses) [] = ⊥
LeadTo view (inverse ∷ inverses) (version ∷ versions) =
    let before = changed view inverse.cell.0 inverse.change in
    CanBeMade view inverse.cell.0 inverse.change × (version ≡ version_of before inverse.cell.0) × LeadTo before inverses versions

-- A log keeps these versions of a library.
pub record Keeps (view : LibraryView) (log : Inverses) (versions : Versions) : Type 0 where
  pub done : LeadTo view log.done versions.done
  pub undone : LeadTo view log.undone versions.undone

-- the versions to which inverses lead
abbrev pub led_to : LibraryView → List Inverse → List Version
led_to view [] = []
led_to view (inverse ∷ inverses) =
    let before = changed view inverse.cell.0 inverse.change in version_of before inverse.cell.0 ∷ led_to before inverses

-- the versions that a log keeps
abbrev pub kept_versions : LibraryView → Inverses → Versions
kept_versions view log = record { done = led_to view log.done; undone = led_to view log.undone }

-- A library was brought to the latest of the earlier versions, as one more edit of its cell, and these inverses lead from it to the versions
-- before it and to those that lead back.
pub record IsReturned (old new : LibraryParts) (earlier later : List Version) (from to : List Inverse) : Type 0 where
  pub back : Return
  pub is : returned (seen old) earlier later ≡ Some back
  pub library : seen new ≡ back.library
  pub edit : IsNextEdit old new back.cell
  pub leads : LeadTo (seen new) from back.earlier
  pub leads_back : LeadTo (seen new) to back.later

-- ---- cells that come

-- Cells came to a library behind those that it had, and use none of these. A library that had cells keeps its scale.
pub record CellsCame (old new : LibraryView) : Type 0 where
  pub more : List CellView
  pub cells : new.cells ≡ old.cells ++ more
  pub tech : new.tech ≡ old.tech
  pub scale : 0 < length old.cells → new.scale ≡ old.scale
  pub apart : All (λ cell. All (λ entry. length old.cells ≤ entry.1.child.0) cell.uses) more
