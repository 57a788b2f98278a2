-- Planes: a number for each square, what setting pieces does to it, and the lists that a plane gives of itself.
use Rattle.std.specs.Prelude.{◌≡◌, ◌≢◌, ℕ, ◌+◌, ◌*◌, ◌<◌, neg_ℤ, List, length, take, AllPairs}
use Rattle.finite_sets.specs.Lists.{In, Lists}
use Rattle.geo_core.specs.declared.limits.TheConstants.{MOST_TILES, PLANE_EDGE, TILES_FOR_A_STRIP}
use Rattle.geo_core.specs.declared.squares.Square.{Square}
use Rattle.geo_core.specs.declared.squares.Rect.{Rect}
use Rattle.geo_core.specs.declared.squares.Piece.{Piece}
use Rattle.geo_core.specs.Areas.{common_rect, LiesWithin}
use Rattle.geo_core.specs.Covering.{Covers, IsProper}
use Rattle.geo_core.specs.Strips.{IsStrip, StandsBefore}

-- The square has this value.
abbrev pub HasValue : (Square → ℕ) → ℕ → Square → Type 0
HasValue values value square = values square ≡ value

-- Each square has the same value in both.
abbrev pub AreSame : (Square → ℕ) → (Square → ℕ) → Type 0
AreSame values others = (square : Square) → others square ≡ values square

-- The squares of each piece have the piece's value now, and all other squares have the value that they had.
pub record AreSet (old new : Square → ℕ) (pieces : List Piece) : Type 0 where
  pub set : (piece : Piece) → In piece pieces → (square : Square) → Covers piece.area square → new square ≡ piece.value
  pub others : (square : Square) → ((piece : Piece) → In piece pieces → Covers piece.area square → ⊥) → new square ≡ old square

-- The tile is the part in the area of a strip of the squares with the tile's value, which is not 0.
pub record IsTileIn (values : Square → ℕ) (area : Rect) (tile : Piece) : Type 0 where
  pub material : tile.value ≢ 0
  pub strip : Rect
  pub is_strip : IsStrip (HasValue values tile.value) strip
  pub cut : tile.area ≡ common_rect strip area
  pub meets : IsProper tile.area

-- The list has exactly the parts in the area of the strips of each value other than 0, each once, in the order of strips, and
-- each square of the area with such a value lies in one of its value.
pub record AreTilesIn (values : Square → ℕ) (area : Rect) (tiles : List Piece) : Type 0 where
  pub each : (tile : Piece) → In tile tiles → IsTileIn values area tile
  pub every : (tile : Piece) → IsTileIn values area tile → In tile tiles
  pub whole : (square : Square) → Covers area square → values square ≢ 0
      → (tile : Piece) × In tile tiles × Covers tile.area square × (tile.value ≡ values square)
  pub ordered : AllPairs (λ a b. StandsBefore a.area b.area) tiles

-- The smallest rectangle that covers all squares with a value other than 0. There is such a square.
pub record IsBox (values : Square → ℕ) (box : Rect) : Type 0 where
  pub square : Square
  pub material : values square ≢ 0
  pub covers : (square : Square) → values square ≢ 0 → Covers box square
  pub least : (area : Rect) → ((square : Square) → values square ≢ 0 → Covers area square) → LiesWithin box area

-- the squares of a plane, in which the strips of space are taken
abbrev pub plane_range : Rect
plane_range = record { xlo = neg_ℤ PLANE_EDGE; ylo = neg_ℤ PLANE_EDGE; xhi = PLANE_EDGE; yhi = PLANE_EDGE }

-- The piece is a strip of the squares of the plane's range that have its value. The value 0, which is space, counts too.
abbrev pub IsTile : (Square → ℕ) → Piece → Type 0
IsTile values tile = IsStrip (λ square. HasValue values tile.value square × Covers plane_range square) tile.area

-- A plane of S strips, those of space among them, needs at most 8 * (S + 1) tiles (`TILES_FOR_A_STRIP`) while a piece is set on it.
-- Where some of the first pieces are set in order, which may be none or all of them, these are more than a plane may have (`MOST_TILES`).
pub record PassesTileLimit (old : Square → ℕ) (pieces : List Piece) : Type 0 where
  pub count : ℕ
  pub after : Square → ℕ
  pub set : AreSet old after (take count pieces)
  pub tiles : List Piece
  pub all_tiles : Lists (IsTile after) tiles
  pub many : MOST_TILES < TILES_FOR_A_STRIP * (length tiles + 1)
