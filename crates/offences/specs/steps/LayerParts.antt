-- The tiles of parts that are given as layers, with the sets of their types.
use Rattle.std.specs.Prelude.{◌≡◌, ◌≢◌, ℕ, List, slice_get, Some}
use Rattle.geo_core.specs.FiniteSets.Lists.{In}
use Rattle.geo_core.specs.declared.squares.Square.{Square}
use Rattle.geo_core.specs.declared.squares.Rect.{Rect}
use Rattle.geo_core.specs.Areas.{LiesWithin}
use Rattle.geo_core.specs.Covering.{Covers, IsProper}
use Rattle.tech_model.specs.declared.raw.TypeId.{TypeId}
use Rattle.tech_model.specs.declared.raw.RawTech.{RawTech}
use Rattle.tech_model.specs.Types.{parts_of}
use Rattle.layout_model.specs.LayerTypes.{Kinds}
use Rattle.offences.specs.declared.set_tiles.SetTile.{SetTile}

-- a tile of a part, with the set of its type
abbrev pub layer_tile : RawTech → ℕ → Rect × TypeId → SetTile
layer_tile raw part tile = record { part = part; area = tile.0; set = record { 0 = parts_of raw tile.1.0 } }

-- The tile is of one of the parts, lies inside the area, and each of its squares has a type with its set.
pub record IsPartTile (raw : RawTech) (plane : ℕ) (area : Rect) (parts : List Kinds) (tile : SetTile) : Type 0 where
  pub kinds : Kinds
  pub there : slice_get parts tile.part ≡ Some kinds
  pub proper : IsProper tile.area
  pub inside : LiesWithin tile.area area
  pub kind : ℕ
  pub set : tile.set.0 ≡ parts_of raw kind
  pub squares : (square : Square) → Covers tile.area square → kinds plane square ≡ Some kind

-- The tiles are those of the parts: each square of the area at which a part has material lies in a tile of it.
pub record ArePartTiles (raw : RawTech) (plane : ℕ) (area : Rect) (parts : List Kinds) (tiles : List SetTile) : Type 0 where
  pub each : (tile : SetTile) → In tile tiles → IsPartTile raw plane area parts tile
  pub every : (part : ℕ) (kinds : Kinds) → slice_get parts part ≡ Some kinds → (square : Square) (kind : ℕ) → Covers area square
      → kinds plane square ≡ Some kind → kind ≢ 0 → (tile : SetTile) × (In tile tiles × (tile.part ≡ part) × Covers tile.area square)
