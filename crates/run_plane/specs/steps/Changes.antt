-- What setting pieces does to the runs of a row and to rows.
use Rattle.std.specs.Prelude.{◌≡◌, ◌⊎◌, ℕ, ◌≤◌, length, take, drop, slice_range, ℤ, ◌≤ℤ◌, ◌<ℤ◌, int_lt, List, [], ◌∷◌, ◌++◌, map, filter}
use Rattle.std.specs.declared.ops.Range.{Range}
use Rattle.std.specs.Int.{int_max, int_min}
use Rattle.finite_sets.specs.Lists.{In}
use Rattle.geo_core.specs.declared.squares.Square.{Square}
use Rattle.geo_core.specs.declared.squares.Piece.{Piece}
use Rattle.geo_core.specs.Areas.{IsSmall}
use Rattle.geo_core.specs.Covering.{Covers}
use Rattle.run_plane.specs.declared.runs.Run.{Run}
use Rattle.run_plane.specs.declared.rows.Row.{Row}
use Rattle.run_plane.specs.Rows.{value_at, number_at, edge, AreRuns}

-- the square in this column and row
abbrev pub square_at : ℤ → ℤ → Square
square_at x y = record { x = x; y = y }

-- the parts of runs left of x
abbrev pub parts_before : ℤ → List Run → List Run
parts_before x runs = map (λ run. record { xlo = run.xlo; xhi = int_min run.xhi x; value = run.value }) (filter (λ run. int_lt run.xlo x) runs)

-- the parts of runs from x on
abbrev pub parts_after : ℤ → List Run → List Run
parts_after x runs = map (λ run. record { xlo = int_max run.xlo x; xhi = run.xhi; value = run.value }) (filter (λ run. int_lt x run.xhi) runs)

-- In the columns of the piece the row has its number now, and in all others what it had.
pub record AreRunsWith (piece : Piece) (runs changed : List Run) : Type 0 where
  pub ordered : AreRuns edge changed
  pub inside : (x : ℤ) → piece.area.xlo ≤ℤ x → x <ℤ piece.area.xhi → value_at changed x ≡ piece.value
  pub outside : (x : ℤ) → (x <ℤ piece.area.xlo) ⊎ (piece.area.xhi ≤ℤ x) → value_at changed x ≡ value_at runs x

-- One square where pieces are set: it has the number of each piece that covers it, and the old one where none does.
pub record IsSetTo (pieces : List Piece) (square : Square) (old new : ℕ) : Type 0 where
  pub set : (piece : Piece) → In piece pieces → Covers piece.area square → new ≡ piece.value
  pub other : ((piece : Piece) → In piece pieces → Covers piece.area square → ⊥) → new ≡ old

-- The row has at its own height the numbers that the rows have there when the pieces are set.
pub record IsRowWith (rows : List Row) (pieces : List Piece) (row : Row) : Type 0 where
  pub ordered : AreRuns edge row.runs
  pub set : (x : ℤ) → IsSetTo pieces (square_at x row.ylo) (number_at rows (square_at x row.ylo)) (value_at row.runs x)

-- No piece begins below the span or ends above it.
pub record Spans (span : Range ℤ) (pieces : List Piece) : Type 0 where
  pub low : (piece : Piece) → In piece pieces → span.start ≤ℤ piece.area.ylo
  pub high : (piece : Piece) → In piece pieces → piece.area.yhi ≤ℤ span.end
  pub near_start : IsSmall span.start
  pub near_end : IsSmall span.end
  pub in_order : span.start <ℤ span.end

-- The places of the rows that begin in the span, its end included.
pub record IsBand (rows : List Row) (span : Range ℤ) (band : Range ℕ) : Type 0 where
  pub in_order : band.start ≤ band.end
  pub within : band.end ≤ length rows
  pub below : (row : Row) → In row (take band.start rows) → row.ylo <ℤ span.start
  pub inside : (row : Row) → In row (slice_range rows band.start band.end) → (span.start ≤ℤ row.ylo) × (row.ylo ≤ℤ span.end)
  pub above : (row : Row) → In row (drop band.end rows) → span.end <ℤ row.ylo

-- Numbers that rise, all above low.
abbrev pub AreAbove : ℤ → List ℤ → Type 0
AreAbove low [] = Unit {0}
AreAbove low (height ∷ heights) = (low <ℤ height) × AreAbove height heights

-- All these heights as they come, where the pieces end last.
abbrev pub all_heights : List Row → List Piece → List ℤ
all_heights rows pieces = map (λ (row : Row). row.ylo) rows ++ map (λ (piece : Piece). piece.area.ylo) pieces ++ map (λ (piece : Piece). piece.area.yhi) pieces

-- The piece begins or ends at this height.
abbrev pub HasEdgeAt : Piece → ℤ → Type 0
HasEdgeAt piece height = (piece.area.ylo ≡ height) ⊎ (piece.area.yhi ≡ height)

-- The heights at which a row begins, or a piece begins or ends.
pub record AreHeights (rows : List Row) (pieces : List Piece) (heights : List ℤ) : Type 0 where
  pub rising : (low : ℤ) → ((height : ℤ) → In height heights → low <ℤ height) → AreAbove low heights
  pub of_rows : (row : Row) → In row rows → In row.ylo heights
  pub of_pieces : (piece : Piece) → In piece pieces → (height : ℤ) → HasEdgeAt piece height → In height heights
  pub only : (height : ℤ) → In height heights → ((row : Row) × In row rows × (row.ylo ≡ height)) ⊎ ((piece : Piece) × In piece pieces × HasEdgeAt piece height)

-- A row for each height, with what the rows have there when the pieces are set.
abbrev pub AreRowsFor : List Row → List Piece → List ℤ → List Row → Type 0
AreRowsFor rows pieces [] [] = Unit {0}
AreRowsFor rows pieces (height ∷ heights) (row ∷ others) = (row.ylo ≡ height) × IsRowWith rows pieces row × AreRowsFor rows pieces heights others
AreRowsFor rows pieces [] (row ∷ others) = ⊥
AreRowsFor rows pieces (height ∷ heights) [] = ⊥

-- Setting a piece makes the first row the second one.
pub record IsRowSet (piece : Piece) (old new : Row) : Type 0 where
  pub height : new.ylo ≡ old.ylo
  pub inside : piece.area.ylo ≤ℤ old.ylo → old.ylo <ℤ piece.area.yhi → AreRunsWith piece old.runs new.runs
  pub outside : (old.ylo <ℤ piece.area.ylo) ⊎ (piece.area.yhi ≤ℤ old.ylo) → new ≡ old

-- It does so with each of the rows.
abbrev pub IsSetIn : Piece → List Row → List Row → Type 0
IsSetIn piece [] [] = Unit {0}
IsSetIn piece (old ∷ olds) (new ∷ news) = IsRowSet piece old new × IsSetIn piece olds news
IsSetIn piece [] (new ∷ news) = ⊥
IsSetIn piece (old ∷ olds) [] = ⊥
