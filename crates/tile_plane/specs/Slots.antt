-- What is kept of a tile.
use Rattle.tile_plane.specs.declared.tiles.Tile.{Tile}
use Rattle.tile_plane.specs.declared.slots.Slot.{Slot}

-- the tile that a slot keeps
abbrev pub tile_of : Slot → Tile
tile_of slot = record {
  area = record { xlo = slot.xlo; ylo = slot.ylo; xhi = slot.xhi; yhi = slot.yhi };
  value = slot.value;
  above = slot.above;
  right = slot.right;
  below = slot.below;
  left = slot.left;
}
