-- The squares that violate rules, where pieces have the squares of their lists.
use Rattle.std.specs.Prelude.{◌==◌, ◌&&◌, ℕ, Bool, List, filter, map}
use Rattle.std.specs.List.{list_any}
use Rattle.geo_core.specs.declared.squares.Square.{Square}
use Rattle.geo_core.specs.declared.squares.Rect.{Rect}
use Rattle.geo_core.specs.Covering.{IsProper}
use Rattle.geo_core.specs.Strips.{IsInUnion}
use Rattle.tech_model.specs.declared.raw.TypeId.{TypeId}
use Rattle.cell_library.specs.CellTree.Hulls.{SpansInRange}
use Rattle.drc_rules.specs.declared.rules.Rule.{Rule}
use Rattle.drc_check.specs.declared.pieces.ListedPiece.{ListedPiece}
use Rattle.drc_check.specs.Violations.{ViolatesBy}

-- The piece has a square, and lies within the range of paint.
pub record IsSoundPiece (piece : ListedPiece) : Type 0 where
  pub proper : IsProper piece.area
  pub spans : SpansInRange piece.area

-- whether the piece is of the plane, and its type of the list
abbrev pub is_of_list : ℕ → List TypeId → ListedPiece → Bool
is_of_list plane kinds piece = piece.plane == plane && list_any (λ kind. kind.0 == piece.kind.0) kinds

-- the areas of the pieces of the plane whose types are of the list
abbrev pub areas_of_list : ℕ → List TypeId → List ListedPiece → List Rect
areas_of_list plane kinds pieces = map (λ piece. piece.area) (filter (is_of_list plane kinds) pieces)

-- The square violates the rule, where these are the pieces of its lists.
abbrev pub ViolatesIn : List ListedPiece → Rule → Square → Type 0
ViolatesIn pieces rule square =
    ViolatesBy rule.kind (IsInUnion (areas_of_list rule.first_plane rule.first pieces))
    (IsInUnion (areas_of_list rule.second_plane rule.second pieces)) rule.d square
