-- The pieces at which the parts of a cell meet, and the tiles that cover each.
use Rattle.std.specs.Prelude.{◌≡◌, ◌≢◌, ◌<◌, ◌≤◌, ℕ, Bool, List, [], length, Some, slice_get, All, AllPairs}
use Rattle.finite_sets.specs.Lists.{In}
use Rattle.geo_core.specs.declared.squares.Rect.{Rect}
use Rattle.geo_core.specs.declared.squares.Square.{Square}
use Rattle.geo_core.specs.Covering.{Covers}
use Rattle.tech_model.specs.declared.raw.RawTech.{RawTech}
use Rattle.cell_library.specs.LayoutModel.CellTrees.{CellTree}
use Rattle.cell_library.specs.LayoutModel.FlatSets.{parts_in}
use Rattle.meeting_laws.specs.Offences.declared.plane_stacks.PlaneStack.{PlaneStack}
use Rattle.meeting_laws.specs.Offences.declared.stacks.PartKind.{PartKind}
use Rattle.meeting_laws.specs.Offences.Offences.{SetLayout}
use Rattle.meeting_laws.specs.Offences.PlaneStacks.{ArePlaneStacks}
use Rattle.meeting_laws.specs.HierarchyModel.Restrictions.{IsRestriction}
use Rattle.meeting_laws.specs.PartLayouts.{HoldsAllMeetings, Passes}
use Rattle.cell_library.specs.declared.part_tiles.PartTile.{PartTile}
use Rattle.cell_library.specs.PartTiles.{IsPartTileIn}

-- The tile is a part tile of the cell, cut to some area.
abbrev pub IsPartTile : CellTree → PartTile → Type 0
IsPartTile tree tile = (area : Rect) × IsPartTileIn tree area tile

-- The tile with this number lies on the plane of the piece and covers it, and its part has material there.
pub record CoversPiece (tiles : List PartTile) (piece : PlaneStack) (member : ℕ) : Type 0 where
  pub tile : PartTile
  pub there : slice_get tiles member ≡ Some tile
  pub plane : tile.plane ≡ piece.plane
  pub covers : (square : Square) → Covers piece.stack.area square → Covers tile.area square
  pub entry : PartKind
  pub listed : In entry piece.stack.kinds
  pub part : entry.part ≡ tile.part

-- The piece has members: the numbers of the tiles of its plane that cover it, of which each part that has material there has one.
pub record HasCoveringTiles (tiles : List PartTile) (piece : PlaneStack) : Type 0 where
  pub some : piece.stack.members ≢ []
  pub each : (member : ℕ) → In member piece.stack.members → CoversPiece tiles piece member
  pub all : (number : ℕ) (tile : PartTile) (square : Square) → slice_get tiles number ≡ Some tile → tile.plane ≡ piece.plane
      → Covers piece.stack.area square → Covers tile.area square → In number piece.stack.members
  pub every : (entry : PartKind) → In entry piece.stack.kinds
      → (member : ℕ) × In member piece.stack.members × (covers : CoversPiece tiles piece member) × (covers.tile.part ≡ entry.part)

-- The tile with this number covers some piece.
pub record CoversSomePiece (stacks : List PlaneStack) (number : ℕ) : Type 0 where
  pub piece : PlaneStack
  pub listed : In piece stacks
  pub is_member : In number piece.stack.members

-- The pieces are, plane by plane, those that the parts of a cell make in squares that have each place at which the parts meet; the tiles are part
-- tiles of the cell, each of which covers some piece.
pub record AreMeetingPieces (raw : RawTech) (tree : CellTree) (tiles : List PartTile) (stacks : List PlaneStack) : Type 0 where
  pub within : Square → Bool
  pub others : List SetLayout
  pub holds : HoldsAllMeetings (Passes within) (parts_in raw tree)
  pub restricted : IsRestriction (Passes within) (parts_in raw tree) others
  pub pieces : ArePlaneStacks raw others stacks
  pub by_plane : AllPairs (λ a b. a.plane ≤ b.plane) stacks
  pub planes : All (λ piece. piece.plane < length raw.planes) stacks
  pub are_tiles : All (IsPartTile tree) tiles
  pub covered : All (HasCoveringTiles tiles) stacks
  pub all_cover : (number : ℕ) → number < length tiles → CoversSomePiece stacks number
