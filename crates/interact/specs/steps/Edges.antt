-- The rows at which rectangles begin and end.
use Rattle.std.specs.Prelude.{ℤ, pos, negsuc, ◌≤ℤ◌, true, false, if◌then◌else◌, List, [], ◌∷◌, All, AllPairs, IsPermutation, filter}
use Rattle.std.specs.Int.{w64}
use Rattle.std.specs.Int.RustNames.{FitsSigned}
use Rattle.std.specs.List.{flat_map}
use Rattle.geo_core.specs.declared.squares.Rect.{Rect}
use Rattle.geo_core.specs.Areas.{has_square}
use Rattle.interact.specs.declared.edges.Edge.{Edge}

-- where the rectangle begins
abbrev pub begin_of : Rect → Edge
begin_of area = record { row = area.ylo; from = area.xlo; to = area.xhi; begins = true }

-- where it has ended
abbrev pub end_of : Rect → Edge
end_of area = record { row = area.yhi; from = area.xlo; to = area.xhi; begins = false }

-- where the rectangle begins, and where it has ended
abbrev pub edges_of : Rect → List Edge
edges_of area = begin_of area ∷ end_of area ∷ []

-- how many rectangles more cover the columns from the edge on
abbrev pub gain_of : Edge → ℤ
gain_of edge = if edge.begins then pos 1 else negsuc 0

-- the first edge is at no later row
abbrev pub IsAtNoLaterRow : Edge → Edge → Type 0
IsAtNoLaterRow a b = a.row ≤ℤ b.row

-- the numbers of the edge are signed ones of 64 bits
pub record IsOf64Bits (edge : Edge) : Type 0 where
  pub row : FitsSigned w64 edge.row
  pub from : FitsSigned w64 edge.from
  pub to : FitsSigned w64 edge.to

-- the edges of the rectangles that have squares, in the order of their rows
pub record AreEdges (areas : List Rect) (edges : List Edge) : Type 0 where
  pub moved : IsPermutation (flat_map edges_of (filter has_square areas)) edges
  pub fit : All IsOf64Bits edges
  pub ordered : AllPairs IsAtNoLaterRow edges

-- the columns of the sides of rectangles that begin
abbrev pub sides_of : List Edge → List ℤ
sides_of [] = []
sides_of (edge ∷ rest) = if edge.begins then edge.from ∷ edge.to ∷ sides_of rest else sides_of rest
