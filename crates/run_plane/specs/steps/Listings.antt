-- Rows as pieces, and strips and tiles of pieces.
use Rattle.std.specs.Prelude.{◌≡◌, ◌≢◌, ℕ, ℤ, pos, ◌≤ℤ◌, ◌<ℤ◌, List, [], map, filter, ◌==◌, AllPairs}
use Rattle.finite_sets.specs.Lists.{In}
use Rattle.geo_core.specs.declared.squares.Square.{Square}
use Rattle.geo_core.specs.declared.squares.Rect.{Rect}
use Rattle.geo_core.specs.declared.squares.Piece.{Piece}
use Rattle.geo_core.specs.Areas.{common_rect, has_square}
use Rattle.geo_core.specs.Covering.{Covers, IsProper}
use Rattle.geo_core.specs.Strips.{IsStrip, StandsBefore}
use Rattle.run_plane.specs.declared.runs.Run.{Run}
use Rattle.run_plane.specs.declared.rows.Row.{Row}
use Rattle.run_plane.specs.Rows.{number_at}

-- a row to name past the end of a list
abbrev pub no_row : Row
no_row = record { ylo = pos 0; runs = [] }

-- The run as a piece in the rows from ylo on and below yhi.
abbrev pub piece_of : ℤ → ℤ → Run → Piece
piece_of ylo yhi run = record { area = record { xlo = run.xlo; ylo = ylo; xhi = run.xhi; yhi = yhi }; value = run.value }

-- The pieces cover the squares that have a number other than 0 from low on and below high, and have their numbers.
pub record AreBetween (rows : List Row) (low high : ℤ) (pieces : List Piece) : Type 0 where
  pub each : (piece : Piece) → In piece pieces → (square : Square) → Covers piece.area square
      → (low ≤ℤ square.y) × (square.y <ℤ high) × (number_at rows square ≡ piece.value)
  pub every : (square : Square) → low ≤ℤ square.y → square.y <ℤ high → number_at rows square ≢ 0 → (piece : Piece) × In piece pieces × Covers piece.area square

-- the areas of the pieces with this number
abbrev pub rects_with : List Piece → ℕ → List Rect
rects_with pieces value = map (λ (piece : Piece). piece.area) (filter (λ piece. piece.value == value) pieces)

-- the parts of the strips in the area, as pieces with this number
abbrev pub parts_in : List Rect → Rect → ℕ → List Piece
parts_in strips area value = map (λ (strip : Rect). record { area = common_rect strip area; value = value })
    (filter (λ strip. has_square (common_rect strip area)) strips)

-- Some piece with this number covers the square.
abbrev pub IsInPieces : List Piece → ℕ → Square → Type 0
IsInPieces pieces value square = (piece : Piece) × In piece pieces × (piece.value ≡ value) × Covers piece.area square

-- Pieces that cover one square have one number.
abbrev pub AgreeOnSquares : List Piece → Type 0
AgreeOnSquares pieces = (a b : Piece) → In a pieces → In b pieces → (square : Square) → Covers a.area square → Covers b.area square → a.value ≡ b.value

-- The tile is the part in the area of a strip of the squares that pieces of its number cover, and the number is not 0.
pub record IsTileFrom (pieces : List Piece) (area : Rect) (tile : Piece) : Type 0 where
  pub material : tile.value ≢ 0
  pub strip : Rect
  pub is_strip : IsStrip (IsInPieces pieces tile.value) strip
  pub cut : tile.area ≡ common_rect strip area
  pub meets : IsProper tile.area

-- A tile of the list has the value and covers the square.
pub record HaveTileAt (tiles : List Piece) (value : ℕ) (square : Square) : Type 0 where
  pub tile : Piece
  pub in_list : In tile tiles
  pub covers : Covers tile.area square
  pub value_is : tile.value ≡ value

-- All such tiles, each once, in the order of strips. They cover what the pieces cover of the area.
pub record AreTilesFrom (pieces : List Piece) (area : Rect) (tiles : List Piece) : Type 0 where
  pub each : (tile : Piece) → In tile tiles → IsTileFrom pieces area tile
  pub every : (tile : Piece) → IsTileFrom pieces area tile → In tile tiles
  pub whole : (value : ℕ) (square : Square) → value ≢ 0 → Covers area square → IsInPieces pieces value square → HaveTileAt tiles value square
  pub ordered : AllPairs (λ a b. StandsBefore a.area b.area) tiles

-- The rectangle of these heights from where the first run begins to where the last ends.
pub record IsRowBox (runs : List Run) (ylo yhi : ℤ) (area : Rect) : Type 0 where
  pub low : area.ylo ≡ ylo
  pub high : area.yhi ≡ yhi
  pub first : (run : Run) × In run runs × (run.xlo ≡ area.xlo)
  pub last : (run : Run) × In run runs × (run.xhi ≡ area.xhi)
  pub covers : (run : Run) → In run runs → (area.xlo ≤ℤ run.xlo) × (run.xhi ≤ℤ area.xhi)
