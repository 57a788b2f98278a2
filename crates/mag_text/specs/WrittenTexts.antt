-- Mag texts as they are written.
use Rattle.std.specs.Prelude.{◌≡◌, ◌<◌, ◌==◌, ◌&&◌, ℕ, ℤ, pos, if◌then◌else◌, List, [], ◌∷◌, ◌++◌, length, map, flat_map, slice_index_or, Option, Some, None}
use Rattle.std.specs.Prelude.{IfSome, codes}
use Rattle.geo_core.specs.declared.grids.Grid.{Grid}
use Rattle.geo_core.specs.declared.squares.Rect.{Rect}
use Rattle.geo_core.specs.Planes.{HasValue}
use Rattle.geo_core.specs.Strips.{IsStrips}
use Rattle.text_scan.specs.Decimal.{decimal}
use Rattle.text_scan.specs.Written.{line_of, text_of}
use Rattle.tech_model.specs.declared.raw.Label.{Label}
use Rattle.tech_model.specs.declared.raw.LayerId.{LayerId}
use Rattle.tech_model.specs.declared.raw.RawTech.{RawTech}
use Rattle.tech_model.specs.Types.{plane_of, images_of, layer_at, first_name, type_number}
use Rattle.cell_library.specs.LayoutModel.Layouts.{Layout}
use Rattle.cell_library.specs.CellPaint.Painting.{kinds_on}
use Rattle.mag_text.specs.declared.written.LayerStrips.{LayerStrips}
use Rattle.mag_text.specs.declared.written.WrittenUse.{WrittenUse}

-- a line of a word and numbers
abbrev pub numbers_line : List ℕ → List ℤ → List ℕ
numbers_line key numbers = line_of (key ∷ map decimal numbers)

-- the edges of a rectangle: left, lower, right and upper
abbrev pub edges_of : Rect → List ℤ
edges_of area = area.xlo ∷ area.ylo ∷ area.xhi ∷ area.yhi ∷ []

-- the numbers of a grid, as a line has them
abbrev pub numbers_of_grid : Grid → List ℤ
numbers_of_grid grid = grid.xlo ∷ grid.xhi ∷ grid.xsep ∷ grid.ylo ∷ grid.yhi ∷ grid.ysep ∷ []

-- a scale other than 1 1 has a line
abbrev pub scale_lines : ℕ × ℕ → List (List ℕ)
scale_lines scale = if scale.0 == 1 && scale.1 == 1 then [] else numbers_line (codes "magscale") (pos scale.0 ∷ pos scale.1 ∷ []) ∷ []

-- a time that no one reads
abbrev pub no_time_line : List ℕ
no_time_line = codes "timestamp 0"

abbrev pub tech_line : List ℕ → List ℕ
tech_line name = line_of (codes "tech" ∷ name ∷ [])

abbrev pub header_lines : List ℕ → ℕ × ℕ → List (List ℕ)
header_lines name scale = codes "magic" ∷ tech_line name ∷ (scale_lines scale ++ no_time_line ∷ [])

-- the type of a layer that is its image on its own plane
abbrev pub own_image : RawTech → ℕ → ℕ
own_image raw layer = (slice_index_or (images_of raw layer) 0 (type_number 0)).0

-- What is written of a layer: the strips of its image on its own plane.
pub record AreLayerStrips (raw : RawTech) (layout : Layout) (layer : ℕ) (group : LayerStrips) : Type 0 where
  pub of_layer : group.layer ≡ layer
  pub strips : IsStrips (HasValue (kinds_on layout (plane_of raw (own_image raw layer))) (own_image raw layer)) group.areas

-- the strips of each layer, in the order of the layers
pub record AreAllStrips (raw : RawTech) (layout : Layout) (strips : List LayerStrips) : Type 0 where
  pub one_each : length strips ≡ length raw.layers
  pub each : (layer : ℕ) (other : LayerStrips) → layer < length raw.layers → AreLayerStrips raw layout layer (slice_index_or strips layer other)

abbrev pub group_line : List ℕ → List ℕ
group_line name = line_of (codes "<<" ∷ name ∷ codes ">>" ∷ [])

abbrev pub area_line : Rect → List ℕ
area_line area = numbers_line (codes "rect") (edges_of area)

-- a group of rectangles, where there is one
abbrev pub group_lines : List ℕ → List Rect → List (List ℕ)
group_lines name [] = []
group_lines name (area ∷ areas) = group_line name ∷ map area_line (area ∷ areas)

abbrev pub layer_lines : RawTech → LayerStrips → List (List ℕ)
layer_lines raw strips = group_lines (first_name (layer_at raw strips.layer)) strips.areas

abbrev pub grid_line : Grid → List ℕ
grid_line grid = numbers_line (codes "array") (numbers_of_grid grid)

abbrev pub array_lines : Option Grid → List (List ℕ)
array_lines None = []
array_lines (Some grid) = grid_line grid ∷ []

abbrev pub transform_line : List ℤ → List ℕ
transform_line six = numbers_line (codes "transform") six

-- the box of a cell without a hull is a point
abbrev pub box_line : Option Rect → List ℕ
box_line None = codes "box 0 0 0 0"
box_line (Some area) = numbers_line (codes "box") (edges_of area)

abbrev pub use_line : List ℕ → List ℕ → List ℕ
use_line cell id = line_of (codes "use" ∷ cell ∷ id ∷ [])

abbrev pub use_lines : WrittenUse → List (List ℕ)
use_lines placed =
    use_line placed.cell.now placed.id.now ∷ (array_lines placed.grid
    ++ no_time_line ∷ transform_line placed.six ∷ box_line placed.hull ∷ [])

-- the word of a label's layer
abbrev pub layer_word : RawTech → Option LayerId → List ℕ
layer_word raw None = codes "space"
layer_word raw (Some layer) = first_name (layer_at raw layer.0)

-- the numbers of a label: its edges and its position
abbrev pub label_numbers : Rect → ℕ → List ℤ
label_numbers area position = area.xlo ∷ area.ylo ∷ area.xhi ∷ area.yhi ∷ pos position ∷ []

-- the text of a label stands last, and may have blanks
abbrev pub label_line : RawTech → Label → List ℕ
label_line raw label =
    line_of (codes "rlabel" ∷ layer_word raw label.layer ∷ (map decimal (label_numbers label.area label.position) ++ label.text ∷ []))

-- the group of labels, where there are some
abbrev pub labels_lines : RawTech → List Label → List (List ℕ)
labels_lines raw [] = []
labels_lines raw (label ∷ labels) = codes "<< labels >>" ∷ map (label_line raw) (label ∷ labels)

abbrev pub end_line : List ℕ
end_line = codes "<< end >>"

-- the lines of a cell: a header, the groups of rectangles in the order of the layers, the uses, the labels, and the end
abbrev pub cell_lines : RawTech → ℕ × ℕ → List LayerStrips → List WrittenUse → List Label → List (List ℕ)
cell_lines raw scale strips uses labels =
    header_lines raw.name scale ++ (flat_map (layer_lines raw) strips ++ (flat_map use_lines uses ++ (labels_lines raw labels ++ end_line ∷ [])))

-- the text of a cell
unfoldable pub mag_text : RawTech → ℕ × ℕ → List LayerStrips → List WrittenUse → List Label → List ℕ
mag_text raw scale strips uses labels = text_of (cell_lines raw scale strips uses labels)

-- The text is that of a cell with this layout as its paint.
pub record IsWrittenText (raw : RawTech) (scale : ℕ × ℕ) (layout : Layout) (uses : List WrittenUse) (labels : List Label) (text : List ℕ) : Type 0 where
  pub strips : List LayerStrips
  pub are_strips : AreAllStrips raw layout strips
  pub text_is : text ≡ mag_text raw scale strips uses labels

-- the strips are of a layer of the technology
abbrev pub IsOfLayer : RawTech → LayerStrips → Type 0
IsOfLayer raw strips = strips.layer < length raw.layers

-- the label's layer, if it has one, is the technology's
abbrev pub IsLayered : RawTech → Label → Type 0
IsLayered raw label = IfSome label.layer (λ layer. layer.0 < length raw.layers)

-- numbers, each behind a blank
abbrev pub numbers_behind_blanks : List ℤ → List ℕ
numbers_behind_blanks numbers = flat_map (λ z. 32 ∷ decimal z) numbers

-- the text of the lines of some records, each of which has some
abbrev pub text_of_each : {X : Type 0} → (X → List (List ℕ)) → List X → List ℕ
text_of_each lines records = flat_map (λ x. text_of (lines x)) records
