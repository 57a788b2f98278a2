-- What a cell's paint is seen as, and what holds of it.
use Rattle.std.specs.Prelude.{◌≡◌, ◌<◌, ◌≤◌, ℕ, IsTrue, List, length, slice_index_or, Option, Some, refl}
use Rattle.std.specs.Coded.{Coded, code_by, coded×, coded_list}
use Rattle.geo_core.specs.declared.squares.Square.{Square}
use Rattle.geo_core.specs.declared.squares.Rect.{Rect}
use Rattle.geo_core.specs.declared.squares.Piece.{Piece}
use Rattle.geo_core.specs.Areas.{LiesWithin}
use Rattle.geo_core.specs.Covering.{Covers}
use Rattle.tile_plane.specs.Contents.{Contents, contents_code, no_contents, value_in, IsReady}
use Rattle.tech_model.specs.declared.limits.TheConstants.{MOST_PLANES}
use Rattle.tech_model.specs.declared.raw.RawTech.{RawTech}
use Rattle.tech_model.specs.declared.raw.TypeRec.{TypeRec}
use Rattle.tech_model.specs.contracts.raw.TypeRec.{the_row as type_row}
use Rattle.tech_model.specs.Types.{is_type, plane_of}
use Rattle.tech_model.specs.ColumnForms.{IsColumn, HasWholeContacts}
use Rattle.layout_model.specs.Places.{Place}
use Rattle.layout_model.specs.Layouts.{Layout, IsMaterial}
use Rattle.cell_paint.specs.Painting.{column_at, paint_range}

-- What a painted plane is seen as, the number at each of its squares, and what it is ready for. The kind of plane is named here alone.
abbrev pub PlaneValue : Type 0
PlaneValue = Contents

-- the number at a square
abbrev pub number_on : PlaneValue → Square → ℕ
number_on = value_in

-- A plane is ready for pieces.
abbrev pub IsReadyFor : PlaneValue → List Piece → Type 0
IsReadyFor = IsReady

-- a plane without paint
abbrev pub no_plane : PlaneValue
no_plane = no_contents

-- the paint of a cell: the tile types of its technology, and its planes
pub record Paint : Type 0 where
  pub kinds : List TypeRec
  pub planes : List PlaneValue

-- a paint is stored as the pair of its fields
abbrev pub paint_code : Coded Paint
paint_code =
    code_by (List TypeRec × List PlaneValue) (coded× (coded_list type_row.coded) (coded_list contents_code)) (λ p. (p.kinds, p.planes))
    (λ p. record { kinds = p.0; planes = p.1 }) (λ _. refl)

-- the layout on these planes, with space past the last
abbrev pub layout_on : List PlaneValue → Layout
layout_on planes place = number_on (slice_index_or planes place.plane no_plane) place.square

-- the layout that the paint shows
abbrev pub layout_of : Paint → Layout
layout_of paint = layout_on paint.planes

-- the type at a square of a plane, which is always defined
abbrev pub seen_kind : Paint → ℕ → Square → Option ℕ
seen_kind paint plane square = Some (layout_of paint (record { plane = plane; square = square }))

-- In each technology with these tile types, each plane has types of its own and space alone, and where one image of a contact
-- stands all of them stand.
abbrev pub KeepsTypes : List TypeRec → Layout → Type 0
KeepsTypes kinds layout =
    (raw : RawTech) → raw.types ≡ kinds → (square : Square)
    → IsColumn raw (column_at layout square) × HasWholeContacts raw (column_at layout square)

-- What holds of every cell's paint: its types are of their planes, its contacts stand whole, and all of it lies within the range.
pub record IsSoundPaint (kinds : List TypeRec) (layout : Layout) : Type 0 where
  pub types : KeepsTypes kinds layout
  pub range : (place : Place) → IsMaterial layout place → Covers paint_range place.square

-- the same, there are no more planes than there may be, and each type stands on one of them
pub record AreCellPlanes (kinds : List TypeRec) (planes : List PlaneValue) : Type 0 where
  pub few : length planes ≤ MOST_PLANES
  pub placed : (raw : RawTech) → raw.types ≡ kinds → (t : ℕ) → IsTrue (is_type raw t) → plane_of raw t < length planes
  pub sound : IsSoundPaint kinds (layout_on planes)

-- The smallest rectangle that covers all paint. There is some.
pub record IsPaintBox (layout : Layout) (box : Rect) : Type 0 where
  pub place : Place
  pub material : IsMaterial layout place
  pub covers : (place : Place) → IsMaterial layout place → Covers box place.square
  pub least : (area : Rect) → ((place : Place) → IsMaterial layout place → Covers area place.square) → LiesWithin box area
