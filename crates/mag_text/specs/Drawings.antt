-- The rectangles of a cell's file, and what painting them in order gives.
use Rattle.std.specs.Prelude.{◌≡◌, ◌<◌, true, ℕ, pos, List, length, All, fold, slice_index_or}
use Rattle.geo_core.specs.Areas.{has_square}
use Rattle.tech_model.specs.declared.raw.RawTech.{RawTech}
use Rattle.cell_library.specs.LayoutModel.Layouts.{Layout}
use Rattle.cell_library.specs.CellPaint.Painting.{is_in_range, with_paint}
use Rattle.mag_text.specs.declared.files.Drawn.{Drawn}

-- A rectangle that may be painted: it is of a layer of the technology, has a square, and lies within the range of paint.
pub record IsDrawn (raw : RawTech) (drawn : Drawn) : Type 0 where
  pub layer : drawn.layer.0 < length raw.layers
  pub square : has_square drawn.area ≡ true
  pub range : is_in_range drawn.area ≡ true

abbrev pub AreDrawn : RawTech → List Drawn → Type 0
AreDrawn raw drawn = All (IsDrawn raw) drawn

-- no paint
abbrev pub empty_layout : Layout
empty_layout place = 0

abbrev pub with_drawn : RawTech → Layout → Drawn → Layout
with_drawn raw layout drawn = with_paint raw drawn.layer.0 drawn.area layout

-- the layout where the rectangles were painted in order on no paint
abbrev pub painted_all : RawTech → List Drawn → Layout
painted_all raw drawn = fold (with_drawn raw) empty_layout drawn

-- what stands past the end of a list of rectangles
abbrev pub no_drawn : Drawn
no_drawn = record { layer = record { 0 = 0 }; area = record { xlo = pos 0; ylo = pos 0; xhi = pos 0; yhi = pos 0 } }

-- the rectangle at an index
abbrev pub drawn_at : List Drawn → ℕ → Drawn
drawn_at drawn index = slice_index_or drawn index no_drawn
