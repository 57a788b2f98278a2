-- How inverses are made of the library as it is.
use Rattle.std.specs.Prelude.{◌≡◌, ℕ, false, List, [], ◌∷◌, ◌++◌, length, Option, Some, MatchOption, slice_get}
use Rattle.geo_core.specs.declared.squares.Piece.{Piece}
use Rattle.geo_core.specs.declared.squares.Rect.{Rect}
use Rattle.geo_core.specs.Areas.{IsNear}
use Rattle.geo_core.specs.Covering.{IsProper}
use Rattle.tech_model.specs.declared.raw.Label.{Label}
use Rattle.tech_model.specs.declared.raw.RawTech.{RawTech}
use Rattle.cell_paint.specs.Paints.{IsSoundPaint}
use Rattle.cell_tree.specs.declared.use_tables.UseBody.{UseBody}
use Rattle.cell_paint.specs.Pieces.{AreTakenOut, CanStandIn}
use Rattle.edit_script.specs.CellLibrary.Refusals.{has_id}
use Rattle.edit_script.specs.CellLibrary.Views.{CellView}
use Rattle.edit_script.specs.Editing.{Editing}
use Rattle.edit_script.specs.Refusals.{ApplyIsRefused}
use Rattle.edit_script.specs.declared.faults.EditFault.{EditFault}
use Rattle.edit_script.specs.ScriptLines.declared.commands.Command.{Command}
use Rattle.undo_log.specs.declared.changes.Change.{Change}
use Rattle.undo_log.specs.declared.changes.Change.TheVariants.{Repaint, InsertUse, SetGrid, AddLabel}

-- nothing refuses the command
abbrev pub Accepts : Editing → Command → Type 0
Accepts editing command = (fault : EditFault) → ApplyIsRefused editing command fault → ⊥

-- The change puts what stands in the area back into it.
pub record PutsBack (raw : RawTech) (body : CellView) (area : Rect) (change : Change) : Type 0 where
  pub pieces : List (ℕ × Piece)
  pub is : change ≡ Repaint area pieces
  pub proper : IsProper area
  pub near : IsNear area
  pub taken : AreTakenOut body.own area pieces
  pub stand : CanStandIn area (length raw.planes) pieces
  pub sound : IsSoundPaint raw.types body.own

-- The change brings the use of this id again.
pub record BringsAgain (body : CellView) (id : List ℕ) (change : Change) : Type 0 where
  pub place : ℕ
  pub used : UseBody
  pub stands : slice_get body.uses place ≡ Some (id, used)
  pub is : change ≡ InsertUse place id used

-- The change gives the use of this id the grid that it has.
pub record GivesGrid (body : CellView) (id : List ℕ) (change : Change) : Type 0 where
  pub place : ℕ
  pub used : UseBody
  pub stands : slice_get body.uses place ≡ Some (id, used)
  pub is : change ≡ SetGrid id used.grid

-- The change adds the last of the labels.
pub record AddsLast (labels : List Label) (change : Change) : Type 0 where
  pub rest : List Label
  pub label : Label
  pub labels_are : labels ≡ rest ++ label ∷ []
  pub is : change ≡ AddLabel label

-- There is no use of this id, or a change was made of it.
abbrev pub OfUse : CellView → List ℕ → (Change → Type 0) → Option Change → Type 0
OfUse body id Is made = MatchOption made (has_id body.uses id ≡ false) Is
