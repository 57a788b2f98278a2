-- Setting a piece band by band. A band is some rows of the piece in which all tiles of it and beside it go on.
use Rattle.std.specs.Prelude.{◌≡◌, ◌⊎◌, ℕ, ℤ, pos, ◌+ℤ◌, ◌-ℤ◌, ◌≤ℤ◌, ◌<ℤ◌, [], ◌∷◌}
use Rattle.geo_core.specs.declared.squares.Square.{Square}
use Rattle.geo_core.specs.declared.squares.Rect.{Rect}
use Rattle.geo_core.specs.declared.squares.Piece.{Piece}
use Rattle.geo_core.specs.Covering.{Covers}
use Rattle.geo_core.specs.Planes.{AreSet}
use Rattle.tile_plane.specs.declared.tiles.Tile.{Tile}
use Rattle.tile_plane.specs.Tiles.{Tiles, tile_at, IsTaken, Owns, value_at}
use Rattle.tile_plane.specs.Walks.{square_at}
use Rattle.tile_plane.specs.steps.Cuts.{AreAlike}
use Rattle.tile_plane.specs.Tall.{IsWideAt, IsTallAt, AreCutAlongAt}

-- the rows of a piece from one height up to another
abbrev pub band_of : Piece → ℤ → ℤ → Piece
band_of piece y top = record piece { area = record piece.area { ylo = y; yhi = top } }

-- Both tiles have the same columns and one value.
pub record AreAsWide (old new : Tile) : Type 0 where
  pub value : new.value ≡ old.value
  pub xlo : new.area.xlo ≡ old.area.xlo
  pub xhi : new.area.xhi ≡ old.area.xhi

-- Only the tile of this number is cut, and only at this height.
pub record IsTileCut (id : ℕ) (y : ℤ) (old new : Tiles) : Type 0 where
  pub source : (k : ℕ) (square : Square) → Owns new k square → (j : ℕ) × Owns old j square × AreAsWide (tile_at old j) (tile_at new k)
  pub others : (j : ℕ) → IsTaken old j → (j ≡ id → ⊥) → AreAlike (tile_at old j) (tile_at new j)
  pub upright : (j : ℕ) (x h : ℤ) → Owns old j (square_at x h) → Owns old j (square_at x (h +ℤ pos 1)) → (h +ℤ pos 1 ≡ y → ⊥)
      → (k : ℕ) × Owns new k (square_at x h) × Owns new k (square_at x (h +ℤ pos 1))

-- The squares of the area are one tile now, of this number and value. Squares elsewhere are in tiles of the columns and values that they
-- were in, and beside the area in tiles that are as they were. Tiles that had no square of the area are as they were, and tiles are cut
-- from one another only at its lowest and highest row.
pub record IsLaid (area : Rect) (value id : ℕ) (old new : Tiles) : Type 0 where
  pub here : (tile_at new id).area ≡ area
  pub value_here : (tile_at new id).value ≡ value
  pub elsewhere : (k : ℕ) (square : Square) → Owns new k square → (Covers area square → ⊥)
      → (j : ℕ) × Owns old j square × AreAsWide (tile_at old j) (tile_at new k)
  pub beside : (k : ℕ) (x h : ℤ) → Owns new k (square_at x h) → area.ylo ≤ℤ h → h <ℤ area.yhi → (Covers area (square_at x h) → ⊥)
      → (j : ℕ) × Owns old j (square_at x h) × AreAlike (tile_at old j) (tile_at new k)
  pub untouched : (j : ℕ) → IsTaken old j → ((square : Square) → Covers area square → Owns old j square → ⊥) → AreAlike (tile_at old j) (tile_at new j)
  pub upright : (j : ℕ) (x h : ℤ) → Owns old j (square_at x h) → Owns old j (square_at x (h +ℤ pos 1)) → (h +ℤ pos 1 ≡ area.ylo → ⊥)
      → (h +ℤ pos 1 ≡ area.yhi → ⊥)
      → (k : ℕ) × Owns new k (square_at x h) × Owns new k (square_at x (h +ℤ pos 1))

-- Where an area ends on one side: at the near end, or at the far end of what lies there, if that has its value.
abbrev pub IsSide : ℕ → ℕ → ℤ → ℤ → ℤ → Type 0
IsSide value other near far end = ((end ≡ near) × (other ≡ value → ⊥)) ⊎ ((end ≡ far) × (other ≡ value))

-- A tile of a band is one now with what the tile to its left has of its rows, if that has the band's value.
abbrev pub IsLaidLeft : Piece → Tile → Tile → ℕ → Tiles → Tiles → Type 0
IsLaidLeft band tile left id old new = (end : ℤ) × IsSide band.value left.value tile.area.xlo left.area.xlo end
    × IsLaid (record tile.area { xlo = end }) band.value id old new

-- The same of the tile to its right.
abbrev pub IsLaidRight : Piece → Tile → Tile → ℕ → Tiles → Tiles → Type 0
IsLaidRight band tile right id old new = (end : ℤ) × IsSide band.value right.value tile.area.xhi right.area.xhi end
    × IsLaid (record tile.area { xhi = end }) band.value id old new

-- The squares of a band are one tile now, with what the tiles to its left and right have of its rows, if they have its value.
pub record IsBandLaid (band : Piece) (id : ℕ) (old new : Tiles) : Type 0 where
  pub area : Rect
  pub laid : IsLaid area band.value id old new
  pub low : area.ylo ≡ band.area.ylo
  pub high : area.yhi ≡ band.area.yhi
  pub left : (k : ℕ) → Owns old k (square_at (band.area.xlo -ℤ pos 1) band.area.ylo)
      → IsSide band.value (tile_at old k).value band.area.xlo (tile_at old k).area.xlo area.xlo
  pub right : (k : ℕ) → Owns old k (square_at band.area.xhi band.area.ylo)
      → IsSide band.value (tile_at old k).value band.area.xhi (tile_at old k).area.xhi area.xhi

-- The tiles of the row from the one left of the area to the one right of it go on up to a height.
pub record AreHigh (area : Rect) (y top : ℤ) (tiles : Tiles) : Type 0 where
  pub reach : (k : ℕ) (x : ℤ) → (area.xlo -ℤ pos 1) ≤ℤ x → x ≤ℤ area.xhi → Owns tiles k (square_at x y) → top ≤ℤ (tile_at tiles k).area.yhi

-- The tiles of the lowest row of a band, with those left and right of it, go on up to its top, and none goes over its sides.
pub record IsBandFree (band : Rect) (tiles : Tiles) : Type 0 where
  pub high : AreHigh band band.ylo band.yhi tiles
  pub left : (k : ℕ) → Owns tiles k (square_at band.xlo band.ylo) → (tile_at tiles k).area.xlo ≡ band.xlo
  pub right : (k : ℕ) → Owns tiles k (square_at band.xhi band.ylo) → (tile_at tiles k).area.xlo ≡ band.xhi

-- The tile has the rows of the band and its value.
pub record IsOfBand (band : Piece) (tile : Tile) : Type 0 where
  pub low : tile.area.ylo ≡ band.area.ylo
  pub high : tile.area.yhi ≡ band.area.yhi
  pub value : tile.value ≡ band.value

-- In this row tiles side by side have other values, but for those that a side of the area divides.
pub record IsWideBeside (area : Rect) (tiles : Tiles) (y : ℤ) : Type 0 where
  pub apart : (a b : ℕ) (x : ℤ) → (x +ℤ pos 1 ≡ area.xlo → ⊥) → (x +ℤ pos 1 ≡ area.xhi → ⊥) → Owns tiles a (square_at x y)
      → Owns tiles b (square_at (x +ℤ pos 1) y)
      → (tile_at tiles a).value ≡ (tile_at tiles b).value → a ≡ b

-- From a row on up to the top of the area no tile goes over its left or right side, and there alone two tiles side by side may have one
-- value. All other rows are wide.
pub record IsOpenFrom (area : Rect) (y : ℤ) (tiles : Tiles) : Type 0 where
  pub wide : (h : ℤ) → (h <ℤ y) ⊎ (area.yhi ≤ℤ h) → IsWideAt tiles h
  pub beside : (h : ℤ) → y ≤ℤ h → h <ℤ area.yhi → IsWideBeside area tiles h
  pub left : AreCutAlongAt tiles area.xlo y area.yhi
  pub right : AreCutAlongAt tiles area.xhi y area.yhi

-- A tile whose columns lie apart from the area and do not touch it is as it was. Rows below the lowest of the area are not cut from one
-- another, and neither are rows above its highest.
pub record AreKept (area : Rect) (old new : Tiles) : Type 0 where
  pub far : (j : ℕ) → IsTaken old j → ((tile_at old j).area.xhi <ℤ area.xlo) ⊎ (area.xhi <ℤ (tile_at old j).area.xlo)
      → (tile_at new j).area ≡ (tile_at old j).area
  pub rows : (j : ℕ) (x y : ℤ) → ((y +ℤ pos 1) <ℤ area.ylo) ⊎ (area.yhi ≤ℤ y) → Owns old j (square_at x y) → Owns old j (square_at x (y +ℤ pos 1))
      → (k : ℕ) × Owns new k (square_at x y) × Owns new k (square_at x (y +ℤ pos 1))

-- A piece is set, all rows are wide, and what is far from it is kept.
pub record IsBanded (piece : Piece) (old new : Tiles) : Type 0 where
  pub set : AreSet (value_at old) (value_at new) (piece ∷ [])
  pub wide : (y : ℤ) → IsWideAt new y
  pub kept : AreKept piece.area old new

-- The columns left of an area, its first and right of it are tall over its heights.
pub record AreColumnsTall (area : Rect) (tiles : Tiles) : Type 0 where
  pub tall : (x y : ℤ) → (x ≡ area.xlo -ℤ pos 1) ⊎ ((x ≡ area.xlo) ⊎ (x ≡ area.xhi)) → area.ylo ≤ℤ (y +ℤ pos 1) → y <ℤ area.yhi → IsTallAt tiles x y

-- The column goes through the first of two tiles, one upon the other, and is the one left of the piece, its first, or the one right of it.
pub record IsAtColumn (piece : Piece) (tile : Tile) (y column : ℤ) : Type 0 where
  pub which : (column ≡ piece.area.xlo -ℤ pos 1) ⊎ ((column ≡ piece.area.xlo) ⊎ (column ≡ piece.area.xhi))
  pub low : tile.area.xlo ≤ℤ column
  pub high : column <ℤ tile.area.xhi
  pub from : piece.area.ylo ≤ℤ (y +ℤ pos 1)
  pub to : y <ℤ piece.area.yhi
