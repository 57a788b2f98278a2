-- Pieces of the planes of a cell, with their regions and with the members that have the tiles which cover them.
use Rattle.std.specs.Prelude.{◌≡◌, ◌<◌, ◌≤◌, ℕ, List, length, All, AllPairs}
use Rattle.tech_model.specs.declared.raw.RawTech.{RawTech}
use Rattle.tech_model.specs.Types.{connects}
use Rattle.layout_model.specs.RegionTiles.{AreRegions}
use Rattle.flood_nodes.specs.declared.found.Regions.{Regions}
use Rattle.flood_nodes.specs.Renumbered.{AreRenumbered}
use Rattle.flood_nodes.specs.Stacking.{AreTyped}
use Rattle.offences.specs.declared.plane_stacks.PlaneStack.{PlaneStack}
use Rattle.offences.specs.Offences.{SetLayout}
use Rattle.offences.specs.PlaneStacks.{ArePlaneStacks}
use Rattle.piece_groups.specs.MeetingSums.LowerMeetingLaws.PartLayouts.{parts_layout}
use Rattle.piece_groups.specs.MeetingSums.declared.limits.TheConstants.{MOST_PARTS}
use Rattle.piece_groups.specs.MeetingSums.StackTiles.{tiles_of}
use Rattle.tile_members.specs.declared.members.TileMembers.{TileMembers}

-- The pieces are those of some parts, fewer than there may be, plane by plane, and each has a flat type that is the technology's and of its plane.
pub record ArePieces (raw : RawTech) (stacks : List PlaneStack) : Type 0 where
  pub parts : List SetLayout
  pub are : ArePlaneStacks raw parts stacks
  pub few : length parts < MOST_PARTS
  pub typed : AreTyped raw (tiles_of stacks)
  pub by_plane : AllPairs (λ a b. a.plane ≤ b.plane) stacks
  pub planes : All (λ piece. piece.plane < length raw.planes) stacks

-- The regions have the pieces as tiles, each in its place, and are those of the flat layout, of whichever parts the pieces are.
pub record ArePieceRegions (raw : RawTech) (stacks : List PlaneStack) (regions : Regions) : Type 0 where
  pub labels : List ℕ
  pub same : AreRenumbered (tiles_of stacks) labels regions.tiles
  pub are : (parts : List SetLayout) → ArePlaneStacks raw parts stacks → AreRegions (connects raw) (parts_layout raw parts) regions.tiles regions.count

-- The tiles that cover the pieces have members, which have names, and each piece has a region.
pub record AreNumbered (pieces : List PlaneStack) (members : TileMembers) (regions : Regions) : Type 0 where
  pub tiles : All (λ piece. All (λ tile. tile < length members.numbers.items) piece.stack.members) pieces
  pub named : All (λ number. number < length members.names.items) members.numbers.items
  pub one_each : length regions.tiles ≡ length pieces
  pub few : regions.count ≤ length pieces
