-- The cells that can be written, and what their texts are read as.
use Rattle.std.specs.Prelude.{◌≡◌, ◌<◌, ◌++◌, ℕ, false, List, [], ◌∷◌, length, map, flat_map, IfSome, IsTrue, ⊤, Ok}
use Rattle.std.specs.List.{AllByRecursion}
use Rattle.geo_core.specs.declared.squares.Rect.{Rect}
use Rattle.geo_core.specs.Areas.{has_square}
use Rattle.text_scan.specs.PlainNames.{is_plain_name}
use Rattle.tech_model.specs.declared.raw.Label.{Label}
use Rattle.tech_model.specs.declared.raw.LayerId.{LayerId}
use Rattle.tech_model.specs.declared.raw.RawTech.{RawTech}
use Rattle.tech_model.specs.Types.{layer_number}
use Rattle.tech_model.specs.WellFormed.{IsWellFormed}
use Rattle.geo_core.specs.Covering.{Covers}
use Rattle.cell_library.specs.LayoutModel.Places.{Place}
use Rattle.cell_library.specs.LayoutModel.Layouts.{Layout, IsMaterial}
use Rattle.cell_library.specs.CellPaint.Painting.{is_in_range, paint_range}
use Rattle.cell_library.specs.CellBodies.declared.bodies.CellUse.{CellUse}
use Rattle.cell_library.specs.CellBodies.Bodies.{IsLabel}
use Rattle.cell_library.specs.CellBodies.Words.{is_use_id}
use Rattle.cell_library.specs.CellBodies.Numbers.{is_grid, is_placing, is_scale_number}
use Rattle.mag_text.specs.declared.files.Drawn.{Drawn}
use Rattle.mag_text.specs.declared.files.Section.TheVariants.{Ended}
use Rattle.mag_text.specs.declared.written.LayerStrips.{LayerStrips}
use Rattle.mag_text.specs.declared.written.WrittenUse.{WrittenUse}
use Rattle.mag_text.specs.Drafts.{Draft, has_id, no_use}
use Rattle.mag_text.specs.MagTexts.{mag_in}
use Rattle.mag_text.specs.WrittenTexts.{AreAllStrips}

-- a rectangle that may be painted
abbrev pub IsPaintable : Rect → Type 0
IsPaintable area = IsTrue (is_in_range area) × IsTrue (has_square area)

-- all material of the layout lies where paint may
abbrev pub IsPaintInRange : Layout → Type 0
IsPaintInRange layout = (place : Place) → IsMaterial layout place → Covers paint_range place.square

-- strips of a layer of the technology
pub record AreWritable (raw : RawTech) (strips : LayerStrips) : Type 0 where
  pub layer : strips.layer < length raw.layers
  pub areas : AllByRecursion IsPaintable strips.areas

-- a use whose words and numbers are of their forms
pub record IsWritableUse (placed : WrittenUse) : Type 0 where
  pub cell : IsTrue (is_plain_name placed.cell.now)
  pub id : IsTrue (is_use_id placed.id.now)
  pub six : IsTrue (is_placing placed.six)
  pub grid : IfSome placed.grid (λ grid. IsTrue (is_grid grid))
  pub hull : IfSome placed.hull (λ hull. IsTrue (is_in_range hull))

-- the use that is written
abbrev pub use_of : WrittenUse → CellUse
use_of placed = record { cell = placed.cell.now; id = placed.id.now; six = placed.six; grid = placed.grid }

-- no use has the id of one of these, or of one before it
abbrev pub AreNew : List CellUse → List WrittenUse → Type 0
AreNew uses [] = ⊤
AreNew uses (placed ∷ others) = (has_id placed.id.now uses ≡ false) × AreNew (uses ++ use_of placed ∷ []) others

-- what can be written beside the strips
pub record FitsText (raw : RawTech) (scale : ℕ × ℕ) (layout : Layout) (uses : List WrittenUse) (labels : List Label) : Type 0 where
  pub well_formed : IsWellFormed raw
  pub numerator : IsTrue (is_scale_number scale.0)
  pub denominator : IsTrue (is_scale_number scale.1)
  pub range : IsPaintInRange layout
  pub uses_fit : AllByRecursion IsWritableUse uses
  pub ids_differ : AreNew [] uses
  pub labels_fit : AllByRecursion (IsLabel raw) labels

-- what can be written
pub record IsWritable (raw : RawTech) (scale : ℕ × ℕ) (strips : List LayerStrips) (uses : List WrittenUse) (labels : List Label) : Type 0 where
  pub well_formed : IsWellFormed raw
  pub numerator : IsTrue (is_scale_number scale.0)
  pub denominator : IsTrue (is_scale_number scale.1)
  pub strips_fit : AllByRecursion (AreWritable raw) strips
  pub uses_fit : AllByRecursion IsWritableUse uses
  pub ids_differ : AreNew [] uses
  pub labels_fit : AllByRecursion (IsLabel raw) labels

abbrev pub drawn_of : LayerId → Rect → Drawn
drawn_of layer area = record { layer = layer; area = area }

-- the strips of a layer as rectangles to paint
abbrev pub drawn_strips : LayerStrips → List Drawn
drawn_strips strips = map (drawn_of (layer_number strips.layer)) strips.areas

-- what a written text is read as
abbrev pub draft_of : ℕ × ℕ → List LayerStrips → List WrittenUse → List Label → Draft
draft_of scale strips uses labels = record {
  section = Ended;
  pending = no_use;
  drawn = flat_map drawn_strips strips;
  uses = map use_of uses;
  labels = labels;
  scale = scale;
}

-- The text is read as the strips of the layout, and these uses, labels and scale.
pub record IsReadAs (raw : RawTech) (scale : ℕ × ℕ) (layout : Layout) (uses : List WrittenUse) (labels : List Label) (text : List ℕ) : Type 0 where
  pub strips : List LayerStrips
  pub are_strips : AreAllStrips raw layout strips
  pub reads : mag_in raw text ≡ Ok (draft_of scale strips uses labels)
