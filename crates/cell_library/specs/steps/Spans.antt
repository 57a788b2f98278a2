-- Which elements of a use an area may meet.
use Rattle.std.specs.Prelude.{◌≡◌, ℕ, ◌+◌, ◌*◌, ◌≤◌, ◌<◌, ℤ, pos, neg_ℤ, ◌*ℤ◌, ◌-ℤ◌, ◌<ℤ◌, ◌≤ℤ◌, List, length, take, Some}
use Rattle.geo_core.specs.declared.grids.Grid.{Grid}
use Rattle.geo_core.specs.declared.limits.TheConstants.{MOST_ELEMENTS}
use Rattle.geo_core.specs.declared.squares.Rect.{Rect}
use Rattle.geo_core.specs.Images.{composed, inverted, rect_image}
use Rattle.cell_tree.specs.declared.limits.TheConstants.{MOST_ELEMENTS_BELOW}
use Rattle.cell_tree.specs.declared.use_tables.UseBody.{UseBody}
use Rattle.cell_tree.specs.Hulls.{SpansInRange}
use Rattle.cell_tree.specs.Uses.{displacements, IsLawfulGrid, IsLawfulUse}
use Rattle.cell_library.specs.declared.spots.Spot.{Spot}
use Rattle.cell_library.specs.declared.spots.UseSearch.{UseSearch}
use Rattle.cell_library.specs.LayoutTrees.{element_transform}
use Rattle.cell_library.specs.Spots.{spots_at, AddsSpots, HasRoomToMove, StandsApart}

-- These numbers below the count are all whose multiples of the step lie between the bounds.
pub record HoldsMultiples (count : ℕ) (step low high : ℤ) (from to : ℕ) : Type 0 where
  pub order : from ≤ to
  pub within : to ≤ count
  pub all : (n : ℕ) → n < count → low <ℤ (pos n *ℤ step) → (pos n *ℤ step) <ℤ high → (from ≤ n) × (n < to)

-- The grid is lawful, and has the elements of the use.
pub record IsGridOf (used : UseBody) (grid : Grid) : Type 0 where
  pub lawful : IsLawfulGrid grid
  pub same : displacements (Some grid) ≡ displacements used.grid

-- less than half the reach of coordinates in absolute value
pub record IsFar (z : ℤ) : Type 0 where
  pub low : neg_ℤ (pos 288230376151711744) ≤ℤ z
  pub high : z ≤ℤ pos 288230376151711744

-- the same of each side of a rectangle
pub record SpansFar (area : Rect) : Type 0 where
  pub xlo : IsFar area.xlo
  pub ylo : IsFar area.ylo
  pub xhi : IsFar area.xhi
  pub yhi : IsFar area.yhi

-- The use is lawful, and its transforms, parts and numbers leave room for all its elements.
pub record HasRoomFor (from : UseSearch) : Type 0 where
  pub lawful : IsLawfulUse from.used
  pub moves : HasRoomToMove 1 from.outer
  pub few : length (displacements from.used.grid) ≤ MOST_ELEMENTS
  pub parts : from.part + length (displacements from.used.grid) * from.part_step ≤ MOST_ELEMENTS_BELOW
  pub elements : from.element + length (displacements from.used.grid) * from.size ≤ MOST_ELEMENTS_BELOW
  pub hull : SpansInRange from.hull
  pub back : SpansFar from.back

-- the spot of the k-th element, which is displaced so far
abbrev pub spot_at : UseSearch → ℕ → ℤ × ℤ → Spot
spot_at from k displaced = record {
  cell = from.used.child;
  to_top = composed (element_transform from.used.placed displaced) from.outer;
  part = from.part + k * from.part_step;
  element = from.element + k * from.size;
}

-- the spots of the first elements
abbrev pub spots_to : UseSearch → ℕ → List Spot
spots_to from k =
    spots_at from.part_step from.size from.outer from.used (take k (displacements from.used.grid)) from.part from.element

-- An element at the spot does not meet the area.
abbrev pub CanBeDropped : UseSearch → Spot → Type 0
CanBeDropped from = StandsApart from.hull from.outer from.back

-- where the area lies in the coordinates of the child, before it is displaced
abbrev pub seen_by : UseSearch → Rect
seen_by from = rect_image (inverted from.used.placed) from.back

-- an element that meets the area is displaced farther to the right than this
abbrev pub seen_low_x : UseSearch → ℤ
seen_low_x from = (seen_by from).xlo -ℤ from.hull.xhi

-- and less far than this
abbrev pub seen_high_x : UseSearch → ℤ
seen_high_x from = (seen_by from).xhi -ℤ from.hull.xlo

-- the same upward
abbrev pub seen_low_y : UseSearch → ℤ
seen_low_y from = (seen_by from).ylo -ℤ from.hull.yhi

-- the same upward
abbrev pub seen_high_y : UseSearch → ℤ
seen_high_y from = (seen_by from).yhi -ℤ from.hull.ylo

-- Where the spots of the first elements were added, the spots of the elements up to a later one now are.
abbrev pub AddsRow : UseSearch → ℕ → ℕ → List Spot → List Spot → Type 0
AddsRow from k j old new =
    (start : List Spot) → AddsSpots (CanBeDropped from) (spots_to from k) start old → AddsSpots (CanBeDropped from) (spots_to from j) start new
