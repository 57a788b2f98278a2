-- Tiles of one plane of a layout: rectangles of one type that hold all its defined material in an area.
use Rattle.std.specs.Prelude.{◌≡◌, ◌≢◌, ℕ, List, AllPairs, Option, Some}
use Rattle.geo_core.specs.FiniteSets.Lists.{In}
use Rattle.geo_core.specs.declared.squares.Square.{Square}
use Rattle.geo_core.specs.declared.squares.Rect.{Rect}
use Rattle.geo_core.specs.Areas.{AreDisjoint, LiesWithin}
use Rattle.geo_core.specs.Covering.{Covers, IsProper}
use Rattle.tech_model.specs.declared.raw.TypeId.{TypeId}

-- The tile has a square, lies inside the area, and each of its squares has its type, which is not space.
pub record IsTileOf (kinds : Square → Option ℕ) (area : Rect) (tile : Rect × TypeId) : Type 0 where
  pub proper : IsProper tile.0
  pub inside : LiesWithin tile.0 area
  pub material : tile.1.0 ≢ 0
  pub squares : (square : Square) → Covers tile.0 square → kinds square ≡ Some tile.1.0

-- The tiles lie apart, and each square of the area whose type is defined and not space lies in one of them.
pub record AreTilesOf (kinds : Square → Option ℕ) (area : Rect) (tiles : List (Rect × TypeId)) : Type 0 where
  pub each : (tile : Rect × TypeId) → In tile tiles → IsTileOf kinds area tile
  pub apart : AllPairs (λ a b. AreDisjoint a.0 b.0) tiles
  pub every : (square : Square) (t : ℕ) → Covers area square → kinds square ≡ Some t → t ≢ 0 → (tile : Rect × TypeId) × (In tile tiles × Covers tile.0 square)
