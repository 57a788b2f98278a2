-- Areas that are to be made stacks or cut, and the rectangles that have squares in them.
use Rattle.std.specs.Prelude.{◌≡◌, ◌≢◌, ◌⊎◌, ◌&&◌, ◌++◌, ℕ, ◌<◌, Bool, true, int_le, List, [], ◌∷◌, length, map, filter, AllPairs}
use Rattle.std.specs.List.{flat_map}
use Rattle.geo_core.specs.FiniteSets.Lists.{In}
use Rattle.geo_core.specs.declared.squares.Square.{Square}
use Rattle.geo_core.specs.declared.squares.Rect.{Rect}
use Rattle.geo_core.specs.Areas.{common_rect, has_square, AreDisjoint, LiesWithin}
use Rattle.geo_core.specs.Covering.{Covers, IsProper}
use Rattle.rect_contacts.specs.Rects.{rect_at}
use Rattle.rect_overlays.specs.declared.regions.Part.{Part}
use Rattle.rect_overlays.specs.declared.regions.Regions.{Regions}
use Rattle.rect_overlays.specs.declared.regions.Span.{Span}
use Rattle.geo_core.specs.Covering.{CoversAt}

-- An area, and the indices of the rectangles of a list that have squares in it.
pub record Region : Type 0 where
  pub area : Rect
  pub members : List ℕ

-- whether the rectangle has a square in the area
abbrev pub meets : Rect → Rect → Bool
meets area rect = has_square (common_rect rect area)

-- whether the rectangle has all columns of the area
abbrev pub has_columns : Rect → Rect → Bool
has_columns area rect = int_le rect.xlo area.xlo && int_le area.xhi rect.xhi

-- whether the rectangle has all rows of the area
abbrev pub has_rows : Rect → Rect → Bool
has_rows area rect = int_le rect.ylo area.ylo && int_le area.yhi rect.yhi

-- whether the rectangle goes round the whole area
abbrev pub goes_round : Rect → Rect → Bool
goes_round area rect = has_columns area rect && has_rows area rect

-- the test of an index for a rectangle that has a square in the area
abbrev pub meets_at : List Rect → Rect → ℕ → Bool
meets_at rects area index = meets area (rect_at rects index)

-- the test of an index for a rectangle that goes round the area
abbrev pub goes_round_at : List Rect → Rect → ℕ → Bool
goes_round_at rects area index = goes_round area (rect_at rects index)

-- each has a square in the area
abbrev pub AllMeet : List Rect → Rect → List ℕ → Type 0
AllMeet rects area members = (member : ℕ) → In member members → meets_at rects area member ≡ true

-- each goes round the area
abbrev pub AllGoRound : List Rect → Rect → List ℕ → Type 0
AllGoRound rects area members = (member : ℕ) → In member members → goes_round_at rects area member ≡ true

-- the rectangle with each side where the one across was
abbrev pub turned_over : Rect → Rect
turned_over area = record { xlo = area.xhi; ylo = area.yhi; xhi = area.xlo; yhi = area.ylo }

-- Each square of the area that one of the rectangles with these indices covers lies in the hull, which goes nowhere past the area.
pub record IsHull (rects : List Rect) (indices : List ℕ) (area hull : Rect) : Type 0 where
  pub within : LiesWithin hull area
  pub holds : (index : ℕ) → In index indices → (square : Square) → Covers (rect_at rects index) square → Covers area square → Covers hull square

-- What the rectangles with these indices have of the area is gathered: those that have a square in it, and what goes round these squares.
pub record IsGathered (rects : List Rect) (indices : List ℕ) (area : Rect) (part : Part) : Type 0 where
  pub hull : IsHull rects indices area part.hull
  pub kept : part.members.items ≡ filter (meets_at rects area) indices

-- whether the rectangle with this index has a square
abbrev pub has_square_at : List Rect → ℕ → Bool
has_square_at rects index = has_square (rect_at rects index)

-- The same of the whole grid: what goes round all squares of rectangles with these indices.
pub record IsWholeOf (rects : List Rect) (indices : List ℕ) (part : Part) : Type 0 where
  pub holds : (index : ℕ) → In index indices → (square : Square) → Covers (rect_at rects index) square → Covers part.hull square
  pub kept : part.members.items ≡ filter (has_square_at rects) indices

-- The region has a square and a member, and is what the rectangles with these indices have of the area.
pub record IsPart (rects : List Rect) (indices : List ℕ) (area : Rect) (part : Region) : Type 0 where
  pub proper : IsProper part.area
  pub some : part.members ≢ []
  pub hull : IsHull rects indices area part.area
  pub kept : part.members ≡ filter (meets_at rects area) indices

-- What the rectangles with these indices have of the area is added to a list of regions, unless it is nothing.
abbrev pub AddsPart : List Rect → List ℕ → Rect → List Region → List Region → Type 0
AddsPart rects indices area before after =
    ((part : Region) × (IsPart rects indices area part × (after ≡ before ++ part ∷ [])))
    ⊎ (((index : ℕ) → In index indices → AreDisjoint (rect_at rects index) area) × (after ≡ before))

-- The members are the indices of those rectangles that cover squares of the area, in order, and maybe of others.
pub record Knows (rects : List Rect) (area : Rect) (members : List ℕ) : Type 0 where
  pub each : (member : ℕ) → In member members → member < length rects
  pub every : (index : ℕ) (square : Square) → CoversAt rects index square → Covers area square → In index members
  pub ordered : AllPairs ◌<◌ members

-- The region has a square and a member, and its members are the indices of the rectangles of a list that have squares in it, in order.
pub record IsRegion (rects : List Rect) (region : Region) : Type 0 where
  pub proper : IsProper region.area
  pub some : region.members ≢ []
  pub meet : AllMeet rects region.area region.members
  pub knows : Knows rects region.area region.members

-- the area of a region, and how many members it has
abbrev pub span_of : Region → Span
span_of region = record { area = region.area; count = length region.members }

-- the members of a region
abbrev pub members_of : Region → List ℕ
members_of region = region.members

-- These are the regions that are kept: their areas and counts, and the members of one behind those of another.
pub record Holds (regions : Regions) (held : List Region) : Type 0 where
  pub spans : regions.spans.items ≡ map span_of held
  pub members : regions.members.items ≡ flat_map members_of held

-- The part is added behind the regions, unless it has no rectangle.
abbrev pub AddsGathered : Part → Regions → Regions → Type 0
AddsGathered part before after =
    ((part.members.items ≢ [])
    × (after.spans.items ≡ before.spans.items ++ record { area = part.hull; count = length part.members.items } ∷ [])
    × (after.members.items ≡ before.members.items ++ part.members.items))
    ⊎ ((part.members.items ≡ []) × (after.spans.items ≡ before.spans.items) × (after.members.items ≡ before.members.items))

-- There is one region, which has each square that a rectangle of the list covers, or there is neither region nor such a square.
abbrev pub IsWhole : List Rect → List Region → Type 0
IsWhole rects held =
    ((region : Region) × (IsRegion rects region × (held ≡ region ∷ [])
    × ((index : ℕ) (square : Square) → CoversAt rects index square → Covers region.area square)))
    ⊎ ((held ≡ []) × ((index : ℕ) (square : Square) → CoversAt rects index square → ⊥))

-- The regions are what the rectangles have of the grid.
abbrev pub IsBeginning : List Rect → Regions → Type 0
IsBeginning rects regions = (held : List Region) × (Holds regions held × IsWhole rects held)
