-- What holds of the two sheets of a plane.
use Rattle.std.specs.Prelude.{List, Option, Some, None, All, AllPairs}
use Rattle.geo_core.specs.declared.squares.Piece.{Piece}
use Rattle.geo_core.specs.Areas.{AreDisjoint, IsNear}
use Rattle.geo_core.specs.Covering.{IsProper}
use Rattle.geo_core.specs.Planes.{AreSet}
use Rattle.tile_plane.specs.declared.sheets.Sheet.{Sheet}
use Rattle.tile_plane.specs.declared.sheets.Second.{Second}
use Rattle.tile_plane.specs.declared.sheets.Second.TheVariants.{Missing, Behind, Ahead}
use Rattle.tile_plane.specs.Tiles.{Tiles, IsTaken, value_at}
use Rattle.tile_plane.specs.Contents.{IsPlane}

-- The tiles are those of a plane, and the hint is one of them.
pub record IsSheet (sheet : Sheet) : Type 0 where
  pub plane : IsPlane sheet.store
  pub taken : IsTaken sheet.store sheet.hint

-- The pieces can be set: each has a square and lies within the bounds of planes, and they lie apart.
pub record AreSettable (pieces : List Piece) : Type 0 where
  pub proper : All (λ piece. IsProper piece.area) pieces
  pub near : All (λ piece. IsNear piece.area) pieces
  pub apart : AllPairs (λ a b. AreDisjoint a.area b.area) pieces

-- From the first tiles to the second these pieces are set.
pub record IsStep (old new : Tiles) (pieces : List Piece) : Type 0 where
  pub settable : AreSettable pieces
  pub set : AreSet (value_at old) (value_at new) pieces

-- the tiles that a commit makes those of the plane
abbrev pub next_of : Second → Option Tiles
next_of Missing = None
next_of (Behind sheet pieces) = None
next_of (Ahead sheet pieces) = Some sheet.store

-- The second sheet beside one of these tiles: one step behind, or ahead by pieces that are known or not.
abbrev pub IsSecond : Tiles → Second → Type 0
IsSecond tiles Missing = Unit {0}
IsSecond tiles (Behind sheet pieces) = IsSheet sheet × IsStep sheet.store tiles pieces.items
IsSecond tiles (Ahead sheet None) = IsSheet sheet
IsSecond tiles (Ahead sheet (Some pieces)) = IsSheet sheet × IsStep tiles sheet.store pieces.items

-- What holds of the sheets of every plane.
pub record AreSheets (first : Sheet) (second : Second) : Type 0 where
  pub sheet : IsSheet first
  pub other : IsSecond first.store second
