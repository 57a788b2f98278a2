-- Tiles as strips, said of tiles alone: side by side they have other values, and none stands upon one of its columns and value.
use Rattle.std.specs.Prelude.{◌≡◌, ◌≢◌, ℕ, ℤ, pos, ◌+ℤ◌, ◌≤ℤ◌, ◌<ℤ◌}
use Rattle.geo_core.specs.Areas.{LiesWithin}
use Rattle.geo_core.specs.Planes.{AreSame}
use Rattle.geo_core.specs.declared.squares.Rect.{Rect}
use Rattle.geo_core.specs.declared.squares.Square.{Square}
use Rattle.tile_plane.specs.declared.tiles.Tile.{Tile}
use Rattle.tile_plane.specs.Tiles.{Tiles, tile_at, IsTaken, Owns, IsPartition, HasStitches, value_at}
use Rattle.tile_plane.specs.Walks.{square_at}
use Rattle.tile_plane.specs.steps.Cuts.{AreAlike}

-- In this row tiles side by side have other values.
pub record IsWideAt (tiles : Tiles) (y : ℤ) : Type 0 where
  pub apart : (a b : ℕ) (x : ℤ) → Owns tiles a (square_at x y) → Owns tiles b (square_at (x +ℤ pos 1) y) → (tile_at tiles a).value ≡ (tile_at tiles b).value
      → a ≡ b

-- The tiles of one of these squares and of the one above it are one, if they have the same columns and value.
pub record IsTallAt (tiles : Tiles) (x y : ℤ) : Type 0 where
  pub apart : (a b : ℕ) → Owns tiles a (square_at x y) → Owns tiles b (square_at x (y +ℤ pos 1)) → (tile_at tiles a).area.xlo ≡ (tile_at tiles b).area.xlo
      → (tile_at tiles a).area.xhi ≡ (tile_at tiles b).area.xhi
      → (tile_at tiles a).value ≡ (tile_at tiles b).value → a ≡ b

-- All tiles are strips.
pub record AreStrips (tiles : Tiles) : Type 0 where
  pub wide : (y : ℤ) → IsWideAt tiles y
  pub tall : (x y : ℤ) → IsTallAt tiles x y

-- From the first list to the second tiles only grow: each goes into one, and none changes its columns or its value.
pub record AreGrown (old new : Tiles) : Type 0 where
  pub goes : (j : ℕ) → (k : ℕ) × ((square : Square) → Owns old j square → Owns new k square)
  pub source : (k : ℕ) (square : Square) → Owns new k square → (j : ℕ) × Owns old j square × ((tile_at new k).value ≡ (tile_at old j).value)
      × ((tile_at new k).area.xlo ≡ (tile_at old j).area.xlo) × ((tile_at new k).area.xhi ≡ (tile_at old j).area.xhi)

-- From the first tiles to the second some were joined, and nothing else was done.
pub record AreJoining (old new : Tiles) : Type 0 where
  pub partition : IsPartition new
  pub stitches : HasStitches new
  pub same : AreSame (value_at old) (value_at new)
  pub grown : AreGrown old new

-- From the first tiles to the second they are only cut across: each lies within one of the same columns and value, and the part of a
-- tile in a row is still in one.
pub record AreCut (old new : Tiles) : Type 0 where
  pub source : (k : ℕ) (square : Square) → Owns new k square → (j : ℕ) × Owns old j square × ((tile_at new k).value ≡ (tile_at old j).value)
      × ((tile_at new k).area.xlo ≡ (tile_at old j).area.xlo) × ((tile_at new k).area.xhi ≡ (tile_at old j).area.xhi)
      × LiesWithin (tile_at new k).area (tile_at old j).area
  pub rows : (j : ℕ) (x other y : ℤ) → Owns old j (square_at x y) → Owns old j (square_at other y)
      → (k : ℕ) × Owns new k (square_at x y) × Owns new k (square_at other y)

-- In this row the tiles from one column on and before another begin with it.
pub record AreCutAt (tiles : Tiles) (y from to : ℤ) : Type 0 where
  pub begin : (k : ℕ) (x : ℤ) → from ≤ℤ x → x <ℤ to → Owns tiles k (square_at x y) → (tile_at tiles k).area.ylo ≡ y

-- The tile has squares on both sides of the height y and in the columns of the area.
pub record CrossesHeight (tile : Tile) (area : Rect) (y : ℤ) : Type 0 where
  pub under : tile.area.ylo <ℤ y
  pub over : y <ℤ tile.area.yhi
  pub from : area.xlo <ℤ tile.area.xhi
  pub to : tile.area.xlo <ℤ area.xhi

-- Tiles are cut at the height y alone, and only those that cross it in the columns of the area. All others are as they were, and each
-- number that had a tile has one.
pub record NothingElseIsCut (area : Rect) (y : ℤ) (old new : Tiles) : Type 0 where
  pub others : (k : ℕ) → IsTaken old k → (CrossesHeight (tile_at old k) area y → ⊥) → AreAlike (tile_at old k) (tile_at new k)
  pub stays : (k : ℕ) → IsTaken old k → IsTaken new k
  pub columns : (j : ℕ) (x h : ℤ) → h +ℤ pos 1 ≢ y → Owns old j (square_at x h) → Owns old j (square_at x (h +ℤ pos 1))
      → (k : ℕ) × Owns new k (square_at x h) × Owns new k (square_at x (h +ℤ pos 1))

-- The same of tiles that are only cut along: each lies within one of the same rows and value, and the part of a tile in a column is
-- still in one.
pub record AreCutAlong (old new : Tiles) : Type 0 where
  pub source : (k : ℕ) (square : Square) → Owns new k square → (j : ℕ) × Owns old j square × ((tile_at new k).value ≡ (tile_at old j).value)
      × ((tile_at new k).area.ylo ≡ (tile_at old j).area.ylo) × ((tile_at new k).area.yhi ≡ (tile_at old j).area.yhi)
      × LiesWithin (tile_at new k).area (tile_at old j).area
  pub columns : (j : ℕ) (x y other : ℤ) → Owns old j (square_at x y) → Owns old j (square_at x other)
      → (k : ℕ) × Owns new k (square_at x y) × Owns new k (square_at x other)

-- In this column the tiles from one row on and before another begin with it.
pub record AreCutAlongAt (tiles : Tiles) (x from to : ℤ) : Type 0 where
  pub begin : (k : ℕ) (y : ℤ) → from ≤ℤ y → y <ℤ to → Owns tiles k (square_at x y) → (tile_at tiles k).area.xlo ≡ x

-- The tile has squares on both sides of x and in the rows of the area.
pub record CrossesColumn (tile : Tile) (area : Rect) (x : ℤ) : Type 0 where
  pub before : tile.area.xlo <ℤ x
  pub after : x <ℤ tile.area.xhi
  pub from : area.ylo <ℤ tile.area.yhi
  pub to : tile.area.ylo <ℤ area.yhi

-- Tiles are cut at x alone, and only those that cross it in the rows of the area. All others are as they were, and each number that had
-- a tile has one.
pub record NothingElseIsCutAlong (area : Rect) (x : ℤ) (old new : Tiles) : Type 0 where
  pub others : (k : ℕ) → IsTaken old k → (CrossesColumn (tile_at old k) area x → ⊥) → AreAlike (tile_at old k) (tile_at new k)
  pub stays : (k : ℕ) → IsTaken old k → IsTaken new k
  pub rows : (j : ℕ) (w y : ℤ) → w +ℤ pos 1 ≢ x → Owns old j (square_at w y) → Owns old j (square_at (w +ℤ pos 1) y)
      → (k : ℕ) × Owns new k (square_at w y) × Owns new k (square_at (w +ℤ pos 1) y)
