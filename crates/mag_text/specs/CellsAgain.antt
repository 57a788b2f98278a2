-- Layouts that paint may show, and what a cell's text is read as.
use Rattle.std.specs.Prelude.{◌≡◌, ℕ, IsTrue, List, map, Some, Err}
use Rattle.geo_core.specs.declared.squares.Square.{Square}
use Rattle.geo_core.specs.Images.{six_of}
use Rattle.text_form.specs.declared.reading.At.{At}
use Rattle.tech_model.specs.declared.raw.RawTech.{RawTech}
use Rattle.tech_model.specs.Types.{is_type, plane_of, layer_of}
use Rattle.tech_model.specs.ColumnForms.{IsOnPlane}
use Rattle.cell_library.specs.LayoutModel.Places.{Place}
use Rattle.cell_library.specs.LayoutModel.Layouts.{Layout}
use Rattle.cell_library.specs.CellPaint.Painting.{kinds_on}
use Rattle.cell_library.specs.CellPaint.Paints.{layout_of}
use Rattle.cell_library.specs.CellBodies.declared.bodies.CellBody.{CellBody}
use Rattle.cell_library.specs.CellBodies.declared.bodies.CellUse.{CellUse}
use Rattle.cell_tree.specs.declared.use_tables.UseBody.{UseBody}
use Rattle.cell_library.specs.Views.{LibraryView, view_at}
use Rattle.mag_text.specs.declared.faults.MagFault.{MagFault}
use Rattle.mag_text.specs.MagTexts.{mag_in, IsRead}

-- Each place has space or a type of its plane, and where one image of a contact stands, all its images stand.
pub record IsSoundLayout (raw : RawTech) (layout : Layout) : Type 0 where
  pub types : (place : Place) → IsOnPlane raw place.plane (layout place)
  pub whole : (square : Square) (s t : ℕ) → IsTrue (is_type raw s) → IsTrue (is_type raw t) → layer_of raw s ≡ layer_of raw t
      → kinds_on layout (plane_of raw s) square ≡ s → kinds_on layout (plane_of raw t) square ≡ t

-- a use of a cell of the library as a file says it: its child by its name, and where it stands by six numbers
abbrev pub use_seen : LibraryView → List ℕ × UseBody → CellUse
use_seen view entry = record { cell = (view_at view entry.1.child.0).name; id = entry.0; six = six_of entry.1.placed; grid = entry.1.grid }

-- The body is that of the cell: its paint, its uses, its labels, and the scale of its library.
pub record IsBodyOf (view : LibraryView) (cell : ℕ) (body : CellBody) : Type 0 where
  pub paint : (place : Place) → layout_of body.paint place ≡ (view_at view cell).own place
  pub uses : body.uses ≡ map (use_seen view) (view_at view cell).uses
  pub labels : body.labels ≡ (view_at view cell).labels
  pub scale : view.scale ≡ Some body.scale

-- The cell is read back from the text: the text has no fault, and a body that is read of it is that of the cell.
pub record IsReadBack (view : LibraryView) (cell : ℕ) (text : List ℕ) : Type 0 where
  pub faultless : (at : At MagFault) → mag_in view.tech text ≡ Err at → ⊥
  pub again : (body : CellBody) → IsRead view.tech text body → IsBodyOf view cell body
