-- The law of pieces as tiles, as a statement.
use Rattle.std.specs.Prelude.{List}
use Rattle.tech_model.specs.declared.raw.RawTech.{RawTech}
use Rattle.offences.specs.LayoutModel.RegionTiles.{AreLayoutTiles}
use Rattle.meeting_laws.specs.FloodNodes.Stacking.{AreTyped}
use Rattle.offences.specs.declared.plane_stacks.PlaneStack.{PlaneStack}
use Rattle.offences.specs.Offences.{SetLayout}
use Rattle.offences.specs.PlaneStacks.{ArePlaneStacks}
use Rattle.meeting_laws.specs.PartLayouts.{parts_layout}
use Rattle.meeting_sums.specs.StackTiles.{tiles_of}

-- The pieces of parts are the tiles of their flat layout, where each has a flat type that is the technology's and of its plane.
abbrev pub StacksAreLayoutTiles : RawTech → Type 0
StacksAreLayoutTiles raw =
    (parts : List SetLayout) (stacks : List PlaneStack) → ArePlaneStacks raw parts stacks → AreTyped raw (tiles_of stacks)
    → AreLayoutTiles (parts_layout raw parts) (tiles_of stacks)
